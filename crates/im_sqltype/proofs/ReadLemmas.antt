-- Where no value has its text at the front of a text.
use Rattle.std.proofs.Common.{◌≡◌, ◌≢◌, ℕ, ◌+◌, ◌<◌, ◌≤◌, Bool, true, false, List, [], ◌∷◌, ◌++◌, sym, ap, ◌∙◌, arith, drop, get_or, length, length-append}
use Rattle.std.specs.Prelude.{if◌then◌else◌}
use Rattle.im_octet.specs.Fields.{field8}
use Rattle.im_sqltype.specs.Kinds.{IsOfKind}
use Rattle.im_sqltype.specs.Reading.{BeginsWithNone, HasNoOctets, HasNoTruth}
use Rattle.im_sqltype.specs.Texts.{raised, value_text}
use Rattle.im_sqltype.specs.declared.kinds.ValueKind.{ValueKind}
use Rattle.im_sqltype.specs.declared.kinds.ValueKind.TheVariants as kinds
use Rattle.im_sqltype.specs.declared.values.Value.{Value}
use Rattle.im_sqltype.specs.declared.values.Value.TheVariants.{Null, Integer, Boolean, Varchar, Blob}
use Rattle.im_octet.proofs.FieldLemmas.{length-field8}

-- the two are one octet, which they are not
unlike : (m n : ℕ) (s t : List ℕ) → m ≢ n → m ∷ s ≡ n ∷ t → ⊥
unlike m n s t h e = h (ap (λ u. get_or u 0 0) e)

unlike_null : (s t : List ℕ) → 1 ∷ s ≡ 0 ∷ t → ⊥
unlike_null s t e = let same : 1 ≡ 0 = ap (λ u. get_or u 0 0) e in omega (arith, same)

behind : (n : ℕ) (s t : List ℕ) → n ∷ s ≡ n ∷ t → s ≡ t
behind n s t e = ap (drop 1) e

pub no_truth_in_empty : (text : List ℕ) → length text ≡ 0 → HasNoTruth text
no_truth_in_empty [] h = record { none = λ truth rest e. cc }
no_truth_in_empty (x ∷ text) h = absurd (let no : ⊥ = omega (arith, h) in no)

pub no_truth_in : (text rest : List ℕ) (n : ℕ) → text ≡ n ∷ rest → n ≢ 0 → n ≢ 1 → HasNoTruth text
no_truth_in text rest n e h k = record { none = other }
  where
    other : (truth : Bool) (more : List ℕ) → text ≡ (if truth then 1 else 0) ∷ more → ⊥
    other true more f = unlike n 1 rest more k (sym e ∙ f)
    other false more f = unlike n 0 rest more h (sym e ∙ f)

pub no_number : (text : List ℕ) → length text < 8 → BeginsWithNone kinds.Integer (1 ∷ text)
no_number text short = record { none = other }
  where
    other : (value : Value) (rest : List ℕ) → IsOfKind kinds.Integer value → 1 ∷ text ≡ value_text value ++ rest → ⊥
    other Null rest p e = unlike_null text rest e
    other (Integer number) rest p e =
        let same : text ≡ field8 (raised number) ++ rest = behind 1 text (field8 (raised number) ++ rest) e in
        let long : length text ≡ 8 + length rest = ap length same ∙ length-append (field8 (raised number)) rest ∙ ap (λ n. n + length rest) (length-field8 (raised number)) in
        omega (arith, short, long)
    other (Boolean truth) rest p e = p
    other (Varchar octets) rest p e = p
    other (Blob octets) rest p e = p

pub no_boolean : (text : List ℕ) → HasNoTruth text → BeginsWithNone kinds.Boolean (1 ∷ text)
no_boolean text absent = record { none = other }
  where
    other : (value : Value) (rest : List ℕ) → IsOfKind kinds.Boolean value → 1 ∷ text ≡ value_text value ++ rest → ⊥
    other Null rest p e = unlike_null text rest e
    other (Integer number) rest p e = p
    other (Boolean truth) rest p e = absent.none truth rest (behind 1 text _ e)
    other (Varchar octets) rest p e = p
    other (Blob octets) rest p e = p

pub no_varchar : (text : List ℕ) → HasNoOctets text → BeginsWithNone kinds.Varchar (1 ∷ text)
no_varchar text absent = record { none = other }
  where
    other : (value : Value) (rest : List ℕ) → IsOfKind kinds.Varchar value → 1 ∷ text ≡ value_text value ++ rest → ⊥
    other Null rest p e = unlike_null text rest e
    other (Integer number) rest p e = p
    other (Boolean truth) rest p e = p
    other (Varchar octets) rest p e = absent.none octets rest (behind 1 text _ e)
    other (Blob octets) rest p e = p

pub no_blob : (text : List ℕ) → HasNoOctets text → BeginsWithNone kinds.Blob (1 ∷ text)
no_blob text absent = record { none = other }
  where
    other : (value : Value) (rest : List ℕ) → IsOfKind kinds.Blob value → 1 ∷ text ≡ value_text value ++ rest → ⊥
    other Null rest p e = unlike_null text rest e
    other (Integer number) rest p e = p
    other (Boolean truth) rest p e = p
    other (Varchar octets) rest p e = p
    other (Blob octets) rest p e = absent.none octets rest (behind 1 text _ e)

-- a text of a value begins with 00 or 01
pub first-value_text : (value : Value) (rest : List ℕ) → get_or (value_text value ++ rest) 0 2 < 2
first-value_text Null rest = omega arith
first-value_text (Integer number) rest = omega arith
first-value_text (Boolean truth) rest = omega arith
first-value_text (Varchar octets) rest = omega arith
first-value_text (Blob octets) rest = omega arith

pub none_first : (kind : ValueKind) (text : List ℕ) → 2 ≤ get_or text 0 2 → BeginsWithNone kind text
none_first kind text h = record {
  none = λ value rest p e.
      let small : get_or (value_text value ++ rest) 0 2 < 2 = first-value_text value rest in
      let same : get_or text 0 2 ≡ get_or (value_text value ++ rest) 0 2 = ap (λ s. get_or s 0 2) e in
      omega (arith, h, small, same);
}

pub none_in_nothing : (kind : ValueKind) (text : List ℕ) → length text < 1 → BeginsWithNone kind text
none_in_nothing kind [] h = none_first kind [] (omega arith)
none_in_nothing kind (x ∷ text) h = absurd (let no : ⊥ = omega (arith, h) in no)

pub none_at_other : (kind : ValueKind) (text : List ℕ) → 1 ≤ length text → get_or text 0 0 ≢ 0 → get_or text 0 0 ≢ 1 → BeginsWithNone kind text
none_at_other kind [] l h k = absurd (let no : ⊥ = omega (arith, l) in no)
none_at_other kind (x ∷ text) l h k = none_first kind (x ∷ text) (let big : 2 ≤ x = omega (arith, h, k) in big)

pub ruleset truths = (no_truth_in_empty, no_truth_in)

pub ruleset contents = (no_number, no_boolean, no_varchar, no_blob)

pub ruleset beginnings = (none_in_nothing, none_at_other)
