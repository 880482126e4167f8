-- Searches whose answer is decided: what has a property, or that nothing has it.
use Rattle.std.proofs.Common.{◌≡◌, ◌≢◌, ◌⊎◌, ◌==◌, ◌<◌, ◌≤◌, ◌+◌, ◌^◌, ℕ, suc, List, [], ◌∷◌, ◌++◌, length, length-append, true, false, codes, Result, Ok, Err, inl, inr, refl, sym, subst, ap, ◌∙◌, append-nil, arith}
use Rattle.std.proofs.lemmas.Bool.{both_ways, cases_lt}
use Rattle.std.proofs.lemmas.Bool.Decides.{eqb_tells}
use Rattle.std.specs.Char.{is_ascii_digit}
use Rattle.hex.specs.Hex.{decode_of}
use Rattle.hex.specs.declared.error.FromHexError.{FromHexError}
use Rattle.im_text.specs.Cuts.{IsCut, Lacks}
use Rattle.im_text.specs.Words.{IsNumber, is_word, number_value}
use Rattle.im_text.proofs.CutLemmas.{append-same, heads-differ}
use Rattle.im_text.proofs.DecideLemmas.{CutOrNone, cut-tells, truth}
use Rattle.im_text.proofs.WordLemmas.{number-unique}
use Rattle.im_text.specs.Fields.{IsOctets, is_bare}
use Rattle.im_script.specs.Arguments.{IsFirstField, IsIndex}

-- something has the property, or nothing has it
abbrev pub Decided : {X : Type 0} → (X → Type 0) → Type 0
Decided P = ((x : _) × P x) ⊎ ((x : _) → P x → ⊥)

-- what is found decides, and so does that nothing is
pub decided-else : {X Y : Type 0} (P : X → Type 0) (Q : Y → Type 0) → ((x : X) → P x → Decided Q) → (((x : X) → P x → ⊥) → Decided Q) → Decided P → Decided Q
decided-else P Q some none (inl h) = some h.0 h.1
decided-else P Q some none (inr h) = none h

-- where nothing is found, nothing has the other property
pub decided-by : {X Y : Type 0} (P : X → Type 0) (Q : Y → Type 0) → ((x : X) → P x → Decided Q) → (((x : X) → P x → ⊥) → (y : Y) → Q y → ⊥) → Decided P → Decided Q
decided-by P Q some none (inl h) = some h.0 h.1
decided-by P Q some none (inr h) = inr (none h)

-- a text is cut at the first mark, or has none
pub by-cut : {Y : Type 0} (Q : Y → Type 0) (mark : ℕ) (text : List ℕ) → ((front back : List ℕ) → IsCut mark text front back → Decided Q) → (Lacks mark text → (y : Y) → Q y → ⊥) → Decided Q
by-cut Q mark text some none = go (cut-tells mark text)
  where
    go : CutOrNone mark text → Decided Q
    go (inl c) = some c.0 c.1 c.2
    go (inr lacks) = inr (none lacks)

-- what follows a prefix
pub after-decided : (prefix text : List ℕ) → Decided (λ (rest : List ℕ). text ≡ prefix ++ rest)
after-decided [] text = inl (text, refl)
after-decided (p ∷ prefix) [] = inr (λ rest e. cc)
after-decided (p ∷ prefix) (o ∷ text) = go (eqb_tells o p) (after-decided prefix text)
  where
    go : (((o == p) ≡ true) × (o ≡ p)) ⊎ (((o == p) ≡ false) × (o ≢ p)) → Decided (λ (rest : List ℕ). text ≡ prefix ++ rest) → Decided (λ (rest : List ℕ). o ∷ text ≡ p ∷ prefix ++ rest)
    go (inl same) (inl h) = inl (h.0, rw (same.1, h.1) refl)
    go (inl same) (inr none) = inr (λ rest e. none rest cc)
    go (inr other) rest = inr (λ rest e. heads-differ o p text (prefix ++ rest) other.0 e)

-- the first field, and what is left behind it
pub first-field : (text : List ℕ) → (field : List ℕ) × (behind : List ℕ) × IsFirstField text field behind
first-field text = go (cut-tells 32 text)
  where
    go : CutOrNone 32 text → (field : List ℕ) × (behind : List ℕ) × IsFirstField text field behind
    go (inl c) = (c.0, 32 ∷ c.1, (c.2.0, c.2.1, inr (c.1, refl)))
    go (inr lacks) = (text, [], (lacks, sym (append-nil text), inl refl))

-- what is left behind the first field is shorter
pub behind-shorter : (text fields field behind : List ℕ) (most : ℕ) → text ≡ 32 ∷ fields → IsFirstField fields field behind → length text ≤ suc most → length behind ≤ most
behind-shorter text fields field behind most begins first few =
    let all : length text ≡ length (32 ∷ fields) = ap length begins in
    let parts : length fields ≡ length field + length behind = ap length first.1 ∙ length-append field behind in
    omega arith

not-below : (m n most : ℕ) → m ≡ n → most ≤ m → n < most → ⊥
not-below m n most same great small = omega arith

-- the number that a text says
pub number-decided : (text : List ℕ) → Decided (IsNumber text)
number-decided text = go (truth (is_word 20 is_ascii_digit text)) (cases_lt (number_value text) (2 ^ 64))
  where
    go : (is_word 20 is_ascii_digit text ≡ true) ⊎ (is_word 20 is_ascii_digit text ≡ false) → (number_value text < 2 ^ 64) ⊎ (2 ^ 64 ≤ number_value text) → Decided (IsNumber text)
    go (inl word) (inl small) = inl (number_value text, (word, refl, small))
    go (inl word) (inr great) = inr (λ n h. not-below (number_value text) n (2 ^ 64) h.1 great h.2)
    go (inr other) size = inr (λ n h. both_ways _ other h.0)

-- the index that a text says
pub index-decided : (text : List ℕ) → Decided (IsIndex text)
index-decided text =
    decided-by (IsNumber text) (IsIndex text) (λ n h. go n h (cases_lt n (2 ^ 32))) (λ none i h. none i h.0) (number-decided text)
  where
    go : (n : ℕ) → IsNumber text n → (n < 2 ^ 32) ⊎ (2 ^ 32 ≤ n) → Decided (IsIndex text)
    go n h (inl small) = inl (n, (h, small))
    go n h (inr great) = inr (λ i k. not-below n i (2 ^ 32) (number-unique text n i h k.0) great k.1)

ok-or-err : (r : Result (List ℕ) FromHexError) (o : List ℕ) (why : FromHexError) → r ≡ Ok o → r ≡ Err why → ⊥
ok-or-err r o why a b = cc

no-octets : (text octets : List ℕ) → is_bare text ≡ false → ((rest : List ℕ) → text ≡ codes "0x" ++ rest → decode_of rest ≡ Ok octets → ⊥) → IsOctets text octets → ⊥
no-octets text octets other none (inl h) = both_ways _ other h.0
no-octets text octets other none (inr h) = none h.0 h.1 h.2

-- the octets that a text says
pub octets-decided : (text : List ℕ) → Decided (IsOctets text)
octets-decided text = go (truth (is_bare text))
  where
    hex : (digits : List ℕ) → text ≡ codes "0x" ++ digits → is_bare text ≡ false → (r : Result (List ℕ) FromHexError) → decode_of digits ≡ r → Decided (IsOctets text)
    hex digits e other (Ok o) is = inl (o, inr (digits, e, is))
    hex digits e other (Err why) is = inr (λ o. no-octets text o other (λ rest begins ok.
        let same = append-same (codes "0x") rest digits (sym begins ∙ e) in
        ok-or-err (decode_of digits) o why (subst (λ (t : List ℕ). decode_of t ≡ Ok o) same ok) is))

    go : (is_bare text ≡ true) ⊎ (is_bare text ≡ false) → Decided (IsOctets text)
    go (inl bare) = inl (text, inl (bare, refl))
    go (inr other) =
        decided-by (λ (rest : List ℕ). text ≡ codes "0x" ++ rest) (IsOctets text) (λ digits e. hex digits e other (decode_of digits) refl)
        (λ none o. no-octets text o other (λ rest begins ok. none rest begins)) (after-decided (codes "0x") text)
