-- Of texts read as a whole, and of lists of values read one behind the other.
use Rattle.std.proofs.Common.{◌≡◌, ◌≢◌, ℕ, List, [], ◌∷◌, ◌++◌, refl, sym, ap, ◌∙◌, subst, suc, length, take, drop, get_or, ◌+◌, ◌<◌}
use Rattle.std.proofs.lemmas.List.{append_assoc, append-nil, take-append-drop, take_more}
use Rattle.std.proofs.Math.Seq.{drop-cons}
use Rattle.std.proofs.lemmas.Grind.{flat_map-append}
use Rattle.im_sqltype.specs.Kinds.{IsOfKind, AreOfKinds}
use Rattle.im_sqltype.specs.Reading.{BeginsWith, BeginsWithNone, BeginWith, BeginWithNone}
use Rattle.im_sqltype.specs.Texts.{value_text, row_text}
use Rattle.im_sqltype.specs.declared.kinds.ValueKind.{ValueKind}
use Rattle.im_sqltype.specs.declared.values.Value.{Value}
use Rattle.im_sqltype.proofs.FrontLemmas.{value-front, row-front}
use Rattle.im_octet.proofs.Common.{no-octets}

-- behind a text there is no-octets, so it is the whole
whole : (text front rest : List ℕ) → text ≡ front ++ rest → length rest ≡ 0 → text ≡ front
whole text front rest e h = e ∙ ap (λ s. front ++ s) (no-octets rest h) ∙ append-nil front

pub whole_value : (kind : ValueKind) (text : List ℕ) (value : Value) (rest : List ℕ) → BeginsWith kind text value rest → length rest ≡ 0 → text ≡ value_text value
whole_value kind text value rest b h = whole text (value_text value) rest b.1 h

pub not_whole_value :
    (kind : ValueKind) (text : List ℕ) (value : Value) (rest : List ℕ) → BeginsWith kind text value rest → length rest ≢ 0 →
    (other : Value) → IsOfKind kind other → text ≢ value_text other
not_whole_value kind text value rest b h other p e =
    h (ap length (value-front kind value other rest [] b.0 p (sym b.1 ∙ e ∙ sym (append-nil (value_text other)))).1)

pub none_whole_value : (kind : ValueKind) (text : List ℕ) → BeginsWithNone kind text → (other : Value) → IsOfKind kind other → text ≢ value_text other
none_whole_value kind text absent other p e = absent.none other [] p (e ∙ sym (append-nil (value_text other)))

pub whole_row : (kinds : List ValueKind) (text : List ℕ) (values : List Value) (rest : List ℕ) → BeginWith kinds text values rest → length rest ≡ 0 → text ≡ row_text values
whole_row kinds text values rest b h = whole text (row_text values) rest b.1 h

pub not_whole_row :
    (kinds : List ValueKind) (text : List ℕ) (values : List Value) (rest : List ℕ) → BeginWith kinds text values rest → length rest ≢ 0 →
    (others : List Value) → AreOfKinds kinds others → text ≢ row_text others
not_whole_row kinds text values rest b h others p e =
    h (ap length (row-front kinds values others rest [] b.0 p (sym b.1 ∙ e ∙ sym (append-nil (row_text others)))).1)

pub none_whole_row : (kinds : List ValueKind) (text : List ℕ) → BeginWithNone kinds text → (others : List Value) → AreOfKinds kinds others → text ≢ row_text others
none_whole_row kinds text absent others p e = absent.none others [] p (e ∙ sym (append-nil (row_text others)))

one_kind_more : (kinds : List ValueKind) (kind : ValueKind) (values : List Value) (value : Value) → AreOfKinds kinds values → IsOfKind kind value → AreOfKinds (kinds ++ kind ∷ []) (values ++ value ∷ [])
one_kind_more [] kind [] value p q = (q, tt)
one_kind_more [] kind (v ∷ values) value p q = absurd p
one_kind_more (k ∷ kinds) kind [] value p q = absurd p
one_kind_more (k ∷ kinds) kind (v ∷ values) value p q = (p.0, one_kind_more kinds kind values value p.1 q)

-- one value more was read
pub one_value_more :
    (kinds : List ValueKind) (kind : ValueKind) (text : List ℕ) (values : List Value) (left : List ℕ) (value : Value) (rest : List ℕ) →
    BeginWith kinds text values left → BeginsWith kind left value rest → BeginWith (kinds ++ kind ∷ []) text (values ++ value ∷ []) rest
one_value_more kinds kind text values left value rest b here = (
  one_kind_more kinds kind values value b.0 here.0,
  b.1 ∙ ap (λ s. row_text values ++ s) here.1 ∙ sym (append_assoc (row_text values) (value_text value) rest)
      ∙ ap (λ s. s ++ rest) (ap (λ s. row_text values ++ s) (sym (append-nil (value_text value))) ∙ sym (flat_map-append value_text values (value ∷ []))),
)

-- values of some kinds, one of the next, and those behind it
record IsCutAt (kinds : List ValueKind) (kind : ValueKind) (values : List Value) : Type 0 where
  front : List Value
  value : Value
  others : List Value
  same : values ≡ front ++ value ∷ others
  are_of : AreOfKinds kinds front
  is_of : IsOfKind kind value

cut_at : (kinds : List ValueKind) (kind : ValueKind) (more : List ValueKind) (values : List Value) → AreOfKinds (kinds ++ kind ∷ more) values → IsCutAt kinds kind values
cut_at [] kind more [] p = absurd p
cut_at [] kind more (v ∷ values) p = record { front = []; value = v; others = values; same = refl; are_of = tt; is_of = p.0 }
cut_at (k ∷ kinds) kind more [] p = absurd p
cut_at (k ∷ kinds) kind more (v ∷ values) p =
    let behind = cut_at kinds kind more values p.1 in
    record { front = v ∷ behind.front; value = behind.value; others = behind.others; same = ap (λ s. v ∷ s) behind.same; are_of = (p.0, behind.are_of); is_of = behind.is_of }

-- where the next value isn't there, there are no values of all kinds
pub none_behind_values :
    (kinds : List ValueKind) (kind : ValueKind) (more : List ValueKind) (text : List ℕ) (values : List Value) (left : List ℕ) →
    BeginWith kinds text values left → BeginsWithNone kind left → BeginWithNone (kinds ++ kind ∷ more) text
none_behind_values kinds kind more text values left b absent = record {
  none = λ others rest p e.
      let cut = cut_at kinds kind more others p in
      let behind = value_text cut.value ++ row_text cut.others in
      let both : row_text values ++ left ≡ row_text cut.front ++ (behind ++ rest) =
      sym b.1 ∙ e ∙ ap (λ s. s ++ rest) (ap row_text cut.same ∙ flat_map-append value_text cut.front (cut.value ∷ cut.others)) ∙ append_assoc (row_text cut.front) behind rest in
      let same = row-front kinds values cut.front left (behind ++ rest) b.0 cut.are_of both in
      absent.none cut.value (row_text cut.others ++ rest) cut.is_of (same.1 ∙ append_assoc (value_text cut.value) (row_text cut.others) rest);
}

-- the same in a loop over the kinds
pub none_at_index :
    (kinds : List ValueKind) (i : ℕ) (d : ValueKind) (text : List ℕ) (values : List Value) (left : List ℕ) → i < length kinds →
    BeginWith (take i kinds) text values left → BeginsWithNone (get_or kinds i d) left → BeginWithNone kinds text
none_at_index kinds i d text values left lt b absent =
    subst (λ ks. BeginWithNone ks text) (ap (λ ks. take i kinds ++ ks) (sym (drop-cons kinds i d lt)) ∙ take-append-drop i kinds)
    (none_behind_values (take i kinds) (get_or kinds i d) (drop (suc i) kinds) text values left b absent)

pub more_at_index :
    (kinds : List ValueKind) (i : ℕ) (d : ValueKind) (text : List ℕ) (values : List Value) (left : List ℕ) (value : Value) (rest : List ℕ) → i < length kinds →
    BeginWith (take i kinds) text values left → BeginsWith (get_or kinds i d) left value rest →
    BeginWith (take (i + 1) kinds) text (values ++ value ∷ []) rest
more_at_index kinds i d text values left value rest lt b here =
    subst (λ ks. BeginWith ks text (values ++ value ∷ []) rest) (sym (take_more kinds i d lt))
    (one_value_more (take i kinds) (get_or kinds i d) text values left value rest b here)

pub ruleset whole_values = (whole_value, not_whole_value, none_whole_value)

pub ruleset whole_rows = (whole_row, not_whole_row, none_whole_row)

pub ruleset rows_so_far = (none_at_index, more_at_index)
