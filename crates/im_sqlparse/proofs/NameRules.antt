-- A token that is a word, folded to lower case, is a name.
use Rattle.std.proofs.Common.{◌≡◌, ◌≤◌, ℕ, suc, ◌+◌, ◌==◌, ◌%◌, ◌&&◌, ◌||◌, nat_le, Bool, true, false, cond, List, [], ◌∷◌, length, map, take, drop, slice_index, codes, Option, Some, None, Ok, refl, sym, ap, ◌∙◌, subst, true≢false, leb-true, inl, inr, arith, rules}
use Rattle.std.proofs.lemmas.List.{length-map}
use Rattle.std.proofs.lemmas.Bool.Decides.{nat_tests}
use Rattle.std.proofs.lemmas.Grind.{common_steps}
use Rattle.std.proofs.lemmas.List.Elements.{All-from_recursion}
use Rattle.std.proofs.lemmas.Str.Ascii.{lowercase-lowercase}
use Rattle.std.specs.Char.{is_ascii_digit, is_ascii_lowercase, is_ascii_alphabetic, to_ascii_lowercase}
use Rattle.std.proofs.lemmas.List.Sums.{list_all-from_AllPass}
use Rattle.std.specs.List.{AllByRecursion, list_all, prefix_len}
use Rattle.std.specs.Str.{bytes_eq, str_eq_ignore_ascii_case}
use denote.Enum.Bare.{same_true}
use Rattle.im_sqlparse.specs.contracts.kinds.Kind.{the_type}
use Rattle.im_sqlparse.specs.declared.errors.SyntaxKind.TheVariants as fault
use Rattle.im_sqlparse.specs.declared.kinds.Kind.{Kind}
use Rattle.im_sqlparse.specs.declared.kinds.Kind.TheVariants as k
use Rattle.im_sqlparse.specs.declared.lex.Class.TheVariants as class
use Rattle.im_sqlparse.specs.Lex.{Text, Token, token, skip, word, word_len, underscored, minus, quoted, closing, closed, hex, sign, comparison_sign, is_in, same_kind, keyword, keywords, lookup}
use Rattle.im_sqlparse.specs.Input.{Input, kind, spelling, next, refuse, fails, sees}
use Rattle.im_sqlparse.specs.Values.{name, column}
use Rattle.im_sqlparse.specs.Formed.{is_name_octet, IsName, IsColumnName}
use Rattle.im_sqlparse.proofs.Moves.{letter}
use Rattle.im_sqlparse.proofs.Gives.{Given, Gives, given_weaker, of_choice}

-- ---- only a token that begins with a letter is a word

abbrev IsOther : Token → Type 0
IsOther tok = same_kind tok.0 k.Word ≡ false

other : (b : Bool) (x y : Token) → IsOther x → IsOther y → IsOther (cond b x y)
other true x y p q = p
other false x y p q = q

hex_other : (s : Text) → IsOther (hex s)
unfolding hex same_kind
hex_other s = other (slice_index s (prefix_len (is_in class.Hex) (drop 2 s) + 2) == 39 && prefix_len (is_in class.Hex) (drop 2 s) % 2 == 0) (k.Hex, prefix_len (is_in class.Hex) (drop 2 s) + 3) (k.Bad, 1) refl refl

rev_other : (b : Bool) → same_kind (cond b k.Rev k.Bad) k.Word ≡ false
unfolding same_kind
rev_other true = refl
rev_other false = refl

underscored_other : (s : Text) → IsOther (underscored s)
unfolding underscored
underscored_other s = rev_other (str_eq_ignore_ascii_case (codes "_rev") (take (word_len s) s))

minus_other : (s : Text) → IsOther (minus s)
unfolding minus same_kind
minus_other s = other (prefix_len (is_in class.Digit) (drop 1 s) == 0) (k.Bad, 1) (k.Number, prefix_len (is_in class.Digit) (drop 1 s) + 1) refl refl

closed_other : (end : Option ℕ) → IsOther (closed end)
unfolding same_kind
closed_other None = refl
closed_other (Some at) = refl

quoted_other : (s : Text) → IsOther (quoted s)
unfolding quoted
quoted_other s = closed_other (closing false 1 (drop 1 s))

compared_other : (o n : ℕ) → IsOther (comparison_sign o n)
unfolding comparison_sign same_kind
compared_other o n =
    other (o == 33) (cond (n == 61) (k.Unequal, 2) (k.Bad, 1)) _ (other (n == 61) (k.Unequal, 2) (k.Bad, 1) refl refl)
    (other (o == 60) (cond (n == 61) (k.AtMost, 2) (cond (n == 62) (k.Unequal, 2) (k.Less, 1))) _
    (other (n == 61) (k.AtMost, 2) (cond (n == 62) (k.Unequal, 2) (k.Less, 1)) refl (other (n == 62) (k.Unequal, 2) (k.Less, 1) refl refl))
    (other (n == 61) (k.AtLeast, 2) (k.Greater, 1) refl refl))

sign_other : (o n : ℕ) → IsOther (sign o n)
unfolding sign same_kind
sign_other o n =
    other (o == 40) (k.Open, 1) _ refl (other (o == 41) (k.Close, 1) _ refl (other (o == 91) (k.OpenBracket, 1) _ refl (other (o == 93) (k.CloseBracket, 1) _ refl
    (other (o == 44) (k.Comma, 1) _ refl (other (o == 59) (k.Semicolon, 1) _ refl (other (o == 42) (k.Star, 1) _ refl (other (o == 61) (k.Equal, 1) _ refl
    (other (o == 33 || o == 60 || o == 62) (comparison_sign o n) (k.Bad, 1) (compared_other o n) refl))))))))

-- where the token is a word, the text begins with a letter, and the token is what `word` finds
abbrev SaysWord : Text → Token → Type 0
SaysWord s tok = same_kind tok.0 k.Word ≡ true → (is_ascii_alphabetic (slice_index s 0) ≡ true) × (tok ≡ word s)

says_other : (s : Text) (tok : Token) → IsOther tok → SaysWord s tok
says_other s tok isnt seen = absurd (true≢false (sym seen ∙ isnt))

says : (s : Text) (b : Bool) (x y : Token) → (b ≡ true → SaysWord s x) → SaysWord s y → SaysWord s (cond b x y)
says s true x y p q = p refl
says s false x y p q = q

token_says : (s : Text) → SaysWord s (token s)
unfolding token same_kind
token_says s =
    let octet = slice_index s 0 in
    says s (length s == 0) (k.End, 0) _ (λ _. says_other s (k.End, 0) refl)
    (says s (octet == 120 && slice_index s 1 == 39) (hex s) _ (λ _. says_other s (hex s) (hex_other s))
    (says s (is_ascii_alphabetic octet) (word s) _ (λ h _. (h, refl))
    (says_other s _
    (other (octet == 95) (underscored s) _ (underscored_other s)
    (other (is_ascii_digit octet) (k.Number, prefix_len (is_in class.Digit) s) _ refl
    (other (octet == 45) (minus s) _ (minus_other s)
    (other (octet == 39) (quoted s) (sign octet (slice_index s 1)) (quoted_other s) (sign_other octet (slice_index s 1)))))))))

-- ---- what a word is made of

pub record IsWord (w : Text) : Type 0 where
  pub some : 1 ≤ length w
  pub begins : is_ascii_alphabetic (slice_index w 0) ≡ true
  pub letters : AllByRecursion (λ o. is_in class.Word o ≡ true) w
  pub free : keyword w ≡ k.Word

passes_more : (p : ℕ → Bool) (x : ℕ) (xs : Text) (b : Bool) → p x ≡ b → AllByRecursion (λ o. p o ≡ true) (take (prefix_len p xs) xs)
    → AllByRecursion (λ o. p o ≡ true) (take (cond b (1 + prefix_len p xs) 0) (x ∷ xs))
passes_more p x xs true e rest =
    let on : suc (prefix_len p xs) ≡ 1 + prefix_len p xs = omega arith in
    subst (λ n. AllByRecursion (λ o. p o ≡ true) (take n (x ∷ xs))) on (e, rest)
passes_more p x xs false e rest = tt

passes : (p : ℕ → Bool) (xs : Text) → AllByRecursion (λ o. p o ≡ true) (take (prefix_len p xs) xs)
passes p [] = tt
passes p (x ∷ xs) = passes_more p x xs (p x) refl (passes p xs)

no_letter : is_ascii_alphabetic 0 ≡ true → ⊥
no_letter h = first_of (cc, grind (arith, nat_tests), grind (arith, common_steps))

word_front : (o : ℕ) (t : Text) → is_ascii_alphabetic o ≡ true → take (word_len (o ∷ t)) (o ∷ t) ≡ o ∷ take (word_len t) t
word_front o t h =
    let on : 1 + word_len t ≡ suc (word_len t) = omega arith in
    ap (λ (b : Bool). take (cond b (1 + word_len t) 0) (o ∷ t)) (letter o h) ∙ ap (λ n. take n (o ∷ t)) on

word_kind : (x : Kind) → same_kind x k.Word ≡ true → x ≡ k.Word
unfolding same_kind
word_kind x h = same_true the_type (search rules) _ _ h

word_is : (s : Text) → is_ascii_alphabetic (slice_index s 0) ≡ true → same_kind (word s).0 k.Word ≡ true → IsWord (take (word s).1 s)
unfolding word
word_is [] h seen = absurd (no_letter h)
word_is (o ∷ t) h seen = record {
  some = subst (λ (w : Text). 1 ≤ length w) (sym (word_front o t h)) (omega arith);
  begins = subst (λ (w : Text). is_ascii_alphabetic (slice_index w 0) ≡ true) (sym (word_front o t h)) h;
  letters = passes (is_in class.Word) (o ∷ t);
  free = word_kind (keyword (take (word_len (o ∷ t)) (o ∷ t))) seen;
}

token_is : (s : Text) → same_kind (token s).0 k.Word ≡ true → IsWord (take (token s).1 s)
token_is s seen =
    let found = token_says s seen in
    subst (λ (tok : Token). IsWord (take tok.1 s)) (sym found.1)
    (word_is s found.0 (subst (λ (tok : Token). same_kind tok.0 k.Word ≡ true) found.1 seen))

-- ---- folding

folded_letter : (o : ℕ) → is_ascii_alphabetic o ≡ true → is_ascii_lowercase (to_ascii_lowercase o) ≡ true
folded_letter o h = first_of (grind (arith, nat_tests), grind (arith, common_steps))

folded_octet : (o : ℕ) → is_in class.Word o ≡ true → is_name_octet (to_ascii_lowercase o) ≡ true
folded_octet o h = first_of (grind (arith, nat_tests), grind (arith, common_steps))

folded_octets : (w : Text) → AllByRecursion (λ o. is_in class.Word o ≡ true) w → AllByRecursion (λ o. is_name_octet o ≡ true) (map to_ascii_lowercase w)
folded_octets [] h = tt
folded_octets (o ∷ w) h = (folded_octet o h.0, folded_octets w h.1)

folded_twice : (w : Text) → map to_ascii_lowercase (map to_ascii_lowercase w) ≡ map to_ascii_lowercase w
folded_twice [] = refl
folded_twice (o ∷ w) = ap (λ x. x ∷ map to_ascii_lowercase (map to_ascii_lowercase w)) (lowercase-lowercase o) ∙ ap (λ xs. to_ascii_lowercase o ∷ xs) (folded_twice w)

-- a word in lower case is the same keyword, or none
folded_lookup : (entries : List (Text × Kind)) (w : Text) → lookup entries (map to_ascii_lowercase w) ≡ lookup entries w
folded_lookup [] w = refl
folded_lookup (e ∷ es) w =
    ap (λ (x : Text). cond (bytes_eq (map to_ascii_lowercase e.0) x) e.1 (lookup es (map to_ascii_lowercase w))) (folded_twice w)
    ∙ ap (λ (r : Kind). cond (str_eq_ignore_ascii_case e.0 w) e.1 r) (folded_lookup es w)

folded_keyword : (w : Text) → keyword (map to_ascii_lowercase w) ≡ keyword w
unfolding keyword
folded_keyword w = folded_lookup keywords w

folded : (w : Text) → IsWord w → length w ≤ 48 → IsName (map to_ascii_lowercase w)
folded [] is few = absurd (no_letter is.begins)
folded (o ∷ w) is few = record {
  some = omega (arith, is.some, length-map (o ∷ w) to_ascii_lowercase);
  short = omega (arith, few, length-map (o ∷ w) to_ascii_lowercase);
  begins = folded_letter o is.begins;
  letters = All-from_recursion (λ x. is_name_octet x ≡ true) (map to_ascii_lowercase (o ∷ w)) (folded_octets (o ∷ w) is.letters);
  free = folded_keyword (o ∷ w) ∙ is.free;
}

-- ---- the rules

spelled : (i : Input) → sees k.Word i ≡ true → IsWord (spelling i)
unfolding sees kind spelling
spelled i seen = token_is (skip i.text) seen

name_given : (i : Input) (b c : Bool) → sees k.Word i ≡ b → nat_le (length (spelling i)) 48 ≡ c
    → Given IsName (cond b (cond c (Ok (map to_ascii_lowercase (spelling i), next i)) (fails fault.Name i)) (refuse i))
name_given i true true seen few = folded (spelling i) (spelled i seen) (leb-true (length (spelling i)) 48 few)
name_given i true false seen few = tt
name_given i false c seen few = tt

pub name_gives : Gives IsName name
unfolding name
name_gives i = name_given i (sees k.Word i) (nat_le (length (spelling i)) 48) refl refl

pub column_gives : (rev : Bool) → Gives (IsColumnName rev) (column rev)
unfolding column
column_gives true i = of_choice (IsColumnName true) (sees k.Rev i) (Ok (codes "_rev", next i)) (name i) (inr refl) (given_weaker IsName (IsColumnName true) (name i) (λ _ h. inl h) (name_gives i))
column_gives false i = name_gives i

pub plain_column_gives : Gives IsName (column false)
unfolding column
plain_column_gives i = name_gives i

-- ---- a test of names

pub other_octets : (name : Text) → list_all is_name_octet name ≡ false → IsName name → ⊥
other_octets name fails is = true≢false (sym (list_all-from_AllPass is_name_octet name is.letters) ∙ fails)
