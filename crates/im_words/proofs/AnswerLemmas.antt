-- What the answers say, of the matches and of the words.
use Rattle.std.proofs.Common.{◌≡◌, ◌≢◌, ◌∙◌, ℕ, Bool, true, false, cond, List, [], Option, Some, None, IsSome, Result, Ok, Err, IsErrAnd, refl, sym, ap, subst, arith, inl, inr}
use Rattle.std.specs.Option.{option_and_then, option_map_or, unwrap_or}
use Rattle.std.specs.Str.Parse.{ParsesUnsigned, digits_value, without_leading_plus}
use Rattle.clap.specs.Words.{App, HasKind, HasMatchesOf, IsAmong, ReadsOne, Text, fault_of, is_simple, is_simple_and_free, kind_of, subcommand_of, subcommand_rows_of}
use Rattle.clap.specs.declared.error.Error.{Error}
use Rattle.clap.specs.declared.error.kind.ErrorKind.TheVariants.{OutOfMemory}
use Rattle.clap.specs.declared.parser.matches.ArgMatches.{ArgMatches}
use Rattle.clap.specs.ValueTests.{is_unsigned_in}
use Rattle.clap.specs.declared.builder.value_parser.ValueParser.TheVariants.{Unsigned}
use Rattle.clap.proofs.ValueTestLemmas.{accepts-Accepts}
use Rattle.im_words.specs.Command.{AreWordsRefused, IsFaultless, Texts, im_at, im_command, link_names, link_texts, texts_behind}
use Rattle.im_words.specs.Meaning.{lines_of_text, logs_of_text}
use Rattle.im_words.specs.declared.WordsError.{WordsError}
use Rattle.im_words.specs.declared.WordsError.TheVariants.{Memory, Usage}
use Rattle.im_words.proofs.PlacedFaults.{fault_of-place, subcommand_of-place}

-- the number that is read of a text that writes one
read_number : (E : Type 0) (G : List ℕ → Result ℕ E → Type 0) (t : Text) (r : Option ℕ) → ReadsOne G t r
    → ((u : List ℕ) (x : Result ℕ E) → G u x → ParsesUnsigned 8 10 u x) → IsSome (logs_of_text t) → logs_of_text t ≡ Some (unwrap_or r 1)
read_number E G t r read only some = go (is_unsigned_in 1 4 t) refl r read some
  where
    go : (b : Bool) → is_unsigned_in 1 4 t ≡ b → (o : Option ℕ) → ReadsOne G t o → IsSome (cond b (Some (digits_value 10 (without_leading_plus t))) None)
        → cond b (Some (digits_value 10 (without_leading_plus t))) None ≡ Some (unwrap_or o 1)
    go false e o h some = cc
    go true e (Some v) h some = ap (λ (n : ℕ). Some n) (sym (only t (Ok v) h).1)
    go true e None h some =
        let number = accepts-Accepts false (Unsigned 1 4) t e in
        absurd (only t (Err h.0) h.1 (number.0, omega arith))

-- the number of logs that is read
pub logs_answer : (E : Type 0) (G : List ℕ → Result ℕ E → Type 0) (one : Option Text) (r : Option ℕ) → (one ≡ None → r ≡ None)
    → ((t : Text) → one ≡ Some t → ReadsOne G t r) → ((u : List ℕ) (x : Result ℕ E) → G u x → ParsesUnsigned 8 10 u x)
    → IsSome (option_map_or logs_of_text one (Some 1)) → option_map_or logs_of_text one (Some 1) ≡ Some (unwrap_or r 1)
logs_answer E G None r none value only some = ap (λ (o : Option ℕ). Some (unwrap_or o 1)) (sym (none refl))
logs_answer E G (Some t) r none value only some = read_number E G t r (value t refl) only some

-- the number of lines that is read of a text that writes one
read_lines : (E : Type 0) (G : List ℕ → Result ℕ E → Type 0) (t : Text) (r : Option ℕ) → ReadsOne G t r
    → ((u : List ℕ) (x : Result ℕ E) → G u x → ParsesUnsigned 32 10 u x) → IsSome (lines_of_text t) → lines_of_text t ≡ Some (unwrap_or r 0)
read_lines E G t r read only some = go (is_unsigned_in 0 100000 t) refl r read some
  where
    go : (b : Bool) → is_unsigned_in 0 100000 t ≡ b → (o : Option ℕ) → ReadsOne G t o → IsSome (cond b (Some (digits_value 10 (without_leading_plus t))) None)
        → cond b (Some (digits_value 10 (without_leading_plus t))) None ≡ Some (unwrap_or o 0)
    go false e o h some = cc
    go true e (Some v) h some = ap (λ (n : ℕ). Some n) (sym (only t (Ok v) h).1)
    go true e None h some =
        let number = accepts-Accepts false (Unsigned 0 100000) t e in
        absurd (only t (Err h.0) h.1 (number.0, omega arith))

-- the number of lines that is read
pub lines_answer : (E : Type 0) (G : List ℕ → Result ℕ E → Type 0) (one : Option Text) (r : Option ℕ)
    → ((t : Text) → one ≡ Some t → ReadsOne G t r) → ((u : List ℕ) (x : Result ℕ E) → G u x → ParsesUnsigned 32 10 u x)
    → IsSome (option_and_then lines_of_text one) → option_and_then lines_of_text one ≡ Some (unwrap_or r 0)
lines_answer E G None r value only some = cc
lines_answer E G (Some t) r value only some = read_lines E G t r (value t refl) only some

-- an error at words that aren't refused is want of memory
pub taken_error : (words : List Text) (e : WordsError) → (AreWordsRefused words → ⊥) → (e ≡ Usage → AreWordsRefused words) → e ≡ Memory
taken_error words Memory taken refused = refl
taken_error words Usage taken refused = absurd (taken (refused refl))

-- `?` passes an error up as it is
pub error_up : {T : Type 0} (r : Result T WordsError) (e f : WordsError) → IsErrAnd r (λ x. x ≡ e) → e ≡ f → r ≡ Err f
error_up (Ok x) e f up same = absurd up
error_up (Err x) e f up same = ap (λ (y : WordsError). Err y) (up ∙ same)

-- ---- the command that the program makes, in place of the command of the definitions

fault_same : (names : Texts) (a : App) (words : List Text) → texts_behind names ≡ link_texts → a ≡ im_at names → fault_of a words ≡ fault_of im_command words
fault_same names a words same e = ap (λ (x : App). fault_of x words) e ∙ fault_of-place names link_names same words

simple_and_free : (names : Texts) (a : App) → a ≡ im_at names → is_simple_and_free a ≡ true
simple_and_free names a e = ap is_simple_and_free e

-- words are taken where the command that was made finds no kind of error
pub faultless_from : (names : Texts) (a : App) (words : List Text) → texts_behind names ≡ link_texts → a ≡ im_at names
    → (is_simple_and_free a ≡ true → fault_of a words ≡ []) → IsFaultless words
faultless_from names a words same e kinds = record { no_kind = sym (fault_same names a words same e) ∙ kinds (simple_and_free names a e) }

-- the subcommand that it meets is that of the definitions
pub matches_from : (names : Texts) (a : App) (words : List Text) (m : ArgMatches) → a ≡ im_at names
    → HasMatchesOf a words m → subcommand_rows_of m ≡ subcommand_of im_command words
matches_from names a words m e matches =
    (matches (ap is_simple e)).1 ∙ ap (λ (x : App). subcommand_of x words) e ∙ subcommand_of-place names link_names words

-- words are refused where it gives an error that is not want of memory
pub refused_from : (names : Texts) (a : App) (words : List Text) (error : Error) → texts_behind names ≡ link_texts → a ≡ im_at names
    → (is_simple_and_free a ≡ true → HasKind (fault_of a words) error) → kind_of error ≢ OutOfMemory → AreWordsRefused words
refused_from names a words error same e kinds other = elim (kinds (simple_and_free names a e)) [
  | inl memory ↦ absurd (other memory)
  | inr among ↦ record {
    kind = kind_of error;
    among = subst (IsAmong (kind_of error)) (fault_same names a words same e) among;
    no_memory = other;
  }
]
