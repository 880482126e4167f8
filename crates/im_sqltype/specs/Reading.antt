-- What a reader finds at the front of a text, for private clauses.
use Rattle.std.specs.Prelude.{◌≡◌, ◌<◌, ℕ, Bool, List, ◌∷◌, ◌++◌, length, if◌then◌else◌}
use Rattle.im_sqltype.specs.Kinds.{IsOfKind, AreOfKinds}
use Rattle.im_sqltype.specs.Texts.{octet_text, octets_text, value_text, row_text}
use Rattle.im_sqltype.specs.declared.kinds.ValueKind.{ValueKind}
use Rattle.im_sqltype.specs.declared.values.Value.{Value}
use Rattle.im_sqltype.specs.declared.reading.Front.{Front}
use Rattle.im_sqltype.specs.declared.reading.Front.TheVariants.{Octet, End, Nothing}

-- the text of a value of this kind comes first, and then the rest
abbrev pub BeginsWith : ValueKind → List ℕ → Value → List ℕ → Type 0
BeginsWith kind text value rest = IsOfKind kind value × (text ≡ value_text value ++ rest)

-- no value of this kind has its text there
pub record BeginsWithNone (kind : ValueKind) (text : List ℕ) : Type 0 where
  pub none : (value : Value) (rest : List ℕ) → IsOfKind kind value → text ≡ value_text value ++ rest → ⊥

-- the texts of values of these kinds come first, and then the rest
abbrev pub BeginWith : List ValueKind → List ℕ → List Value → List ℕ → Type 0
BeginWith kinds text values rest = AreOfKinds kinds values × (text ≡ row_text values ++ rest)

-- no values of these kinds have their texts there
pub record BeginWithNone (kinds : List ValueKind) (text : List ℕ) : Type 0 where
  pub none : (values : List Value) (rest : List ℕ) → AreOfKinds kinds values → text ≡ row_text values ++ rest → ⊥

-- no octets have their text there
pub record HasNoOctets (text : List ℕ) : Type 0 where
  pub none : (octets rest : List ℕ) → text ≡ octets_text octets ++ rest → ⊥

-- neither 00 nor 01 is there
pub record HasNoTruth (text : List ℕ) : Type 0 where
  pub none : (truth : Bool) (rest : List ℕ) → text ≡ (if truth then 1 else 0) ∷ rest → ⊥

-- one octet's text comes first, or the end of octets, or neither
abbrev pub IsFront : List ℕ → Front → Type 0
IsFront text (Octet octet rest) = (text ≡ octet_text octet ++ rest.now) × (length rest.now < length text)
IsFront text (End rest) = text ≡ 0 ∷ 0 ∷ rest.now
IsFront text Nothing = HasNoOctets text
