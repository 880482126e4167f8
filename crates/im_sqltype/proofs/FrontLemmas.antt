-- Of the texts of values and of lists of values: their order, and that none is the front part of another.
use Rattle.std.proofs.Common.{◌≡◌, ℕ, List, [], ◌∷◌, ◌++◌, refl, sym, ap, ◌∙◌, subst, FitsSigned, true, false}
use Rattle.std.specs.Prelude.{⊤}
use Rattle.std.specs.Int.{w64}
use Rattle.std.specs.FinMap.{int_cmp-IsAntisymmetric}
use Rattle.std.specs.declared.cmp.Ordering.TheVariants.{Equal}
use Rattle.std.specs.Ordering.{ordering_then}
use Rattle.std.specs.Cmp.{tied_itself}
use Rattle.std.specs.Cmp.Lexicographic.{nat_list_cmp_total}
use Rattle.std.proofs.lemmas.List.{append_assoc}
use Rattle.std.proofs.lemmas.Map.Lookups.{exact_bytes}
use Rattle.im_sqltype.specs.Kinds.{IsOfKind, AreOfKinds}
use Rattle.im_sqltype.specs.Orders.{octets_cmp, value_cmp, row_cmp}
use Rattle.im_sqltype.specs.Texts.{raised, value_text, row_text}
use Rattle.im_sqltype.specs.declared.kinds.ValueKind.{ValueKind}
use Rattle.im_sqltype.specs.declared.kinds.ValueKind.TheVariants as kinds
use Rattle.im_sqltype.specs.declared.values.Value.{Value}
use Rattle.im_sqltype.specs.declared.values.Value.TheVariants.{Null, Integer, Boolean, Varchar, Blob}
use Rattle.im_sqltype.proofs.OrderLemmas.{then_assoc, first_equal, second_equal, not_equal}
use Rattle.im_sqltype.proofs.FieldLemmas.{field8-order, raised-below, raised-order}
use Rattle.im_sqltype.proofs.OctetLemmas.{octets_text-order}

-- two values of one kind, or NULL
abbrev AreAlike : Value → Value → Type 0
AreAlike Null w = ⊤
AreAlike v Null = ⊤
AreAlike (Integer x) (Integer y) = FitsSigned w64 x × FitsSigned w64 y
AreAlike (Boolean x) (Boolean y) = ⊤
AreAlike (Varchar x) (Varchar y) = ⊤
AreAlike (Blob x) (Blob y) = ⊤
AreAlike v w = ⊥

alike : (kind : ValueKind) (v w : Value) → IsOfKind kind v → IsOfKind kind w → AreAlike v w
alike kind Null w p q = tt
alike kind (Integer x) Null p q = tt
alike kind (Boolean x) Null p q = tt
alike kind (Varchar x) Null p q = tt
alike kind (Blob x) Null p q = tt
alike kinds.Integer (Integer x) (Integer y) p q = (p, q)
alike kinds.Integer (Integer x) w p q = absurd q
alike kinds.Integer v w p q = absurd p
alike kinds.Boolean (Boolean x) (Boolean y) p q = tt
alike kinds.Boolean (Boolean x) w p q = absurd q
alike kinds.Boolean v w p q = absurd p
alike kinds.Varchar (Varchar x) (Varchar y) p q = tt
alike kinds.Varchar (Varchar x) w p q = absurd q
alike kinds.Varchar v w p q = absurd p
alike kinds.Blob (Blob x) (Blob y) p q = tt
alike kinds.Blob (Blob x) w p q = absurd q
alike kinds.Blob v w p q = absurd p

alike-order : (v w : Value) (a b : List ℕ) → AreAlike v w → octets_cmp (value_text v ++ a) (value_text w ++ b) ≡ ordering_then (value_cmp v w) (octets_cmp a b)
alike-order Null w a b h = null-order w
  where
    null-order : (w : Value) → octets_cmp (0 ∷ a) (value_text w ++ b) ≡ ordering_then (value_cmp Null w) (octets_cmp a b)
    null-order Null = refl
    null-order w = refl
alike-order (Integer x) Null a b h = refl
alike-order (Boolean x) Null a b h = refl
alike-order (Varchar x) Null a b h = refl
alike-order (Blob x) Null a b h = refl
alike-order (Integer x) (Integer y) a b h =
    field8-order (raised x) (raised y) a b (raised-below x h.0) (raised-below y h.1)
    ∙ ap (λ o. ordering_then o (octets_cmp a b)) (raised-order x y h.0 h.1)
alike-order (Boolean false) (Boolean false) a b h = refl
alike-order (Boolean false) (Boolean true) a b h = refl
alike-order (Boolean true) (Boolean false) a b h = refl
alike-order (Boolean true) (Boolean true) a b h = refl
alike-order (Varchar x) (Varchar y) a b h = octets_text-order x y a b
alike-order (Blob x) (Blob y) a b h = octets_text-order x y a b
alike-order v w a b h = absurd h

pub value-order :
    (kind : ValueKind) (v w : Value) (a b : List ℕ) → IsOfKind kind v → IsOfKind kind w →
    octets_cmp (value_text v ++ a) (value_text w ++ b) ≡ ordering_then (value_cmp v w) (octets_cmp a b)
value-order kind v w a b p q = alike-order v w a b (alike kind v w p q)

pub row-order :
    (kinds : List ValueKind) (vs ws : List Value) (a b : List ℕ) → AreOfKinds kinds vs → AreOfKinds kinds ws →
    octets_cmp (row_text vs ++ a) (row_text ws ++ b) ≡ ordering_then (row_cmp vs ws) (octets_cmp a b)
row-order [] [] [] a b p q = refl
row-order [] (v ∷ vs) ws a b p q = absurd p
row-order [] [] (w ∷ ws) a b p q = absurd q
row-order (kind ∷ kinds) [] ws a b p q = absurd p
row-order (kind ∷ kinds) (v ∷ vs) [] a b p q = absurd q
row-order (kind ∷ kinds) (v ∷ vs) (w ∷ ws) a b p q =
    (λ i. octets_cmp (append_assoc (value_text v) (row_text vs) a i) (append_assoc (value_text w) (row_text ws) b i))
    ∙ value-order kind v w (row_text vs ++ a) (row_text ws ++ b) p.0 q.0
    ∙ ap (ordering_then (value_cmp v w)) (row-order kinds vs ws a b p.1 q.1)
    ∙ then_assoc (value_cmp v w) (row_cmp vs ws) (octets_cmp a b)

-- two values that compare as equal are one
pub value_cmp-exact : (v w : Value) → value_cmp v w ≡ Equal → v ≡ w
value_cmp-exact Null Null e = refl
value_cmp-exact (Integer x) (Integer y) e = ap Integer (int_cmp-IsAntisymmetric x y e)
value_cmp-exact (Boolean false) (Boolean false) e = refl
value_cmp-exact (Boolean true) (Boolean true) e = refl
value_cmp-exact (Boolean false) (Boolean true) e = absurd (not_equal _ e)
value_cmp-exact (Boolean true) (Boolean false) e = absurd (not_equal _ e)
value_cmp-exact (Varchar x) (Varchar y) e = ap Varchar (exact_bytes x y e)
value_cmp-exact (Blob x) (Blob y) e = ap Blob (exact_bytes x y e)
value_cmp-exact v w e = absurd (not_equal _ e)

pub row_cmp-exact : (vs ws : List Value) → row_cmp vs ws ≡ Equal → vs ≡ ws
row_cmp-exact [] [] e = refl
row_cmp-exact [] (w ∷ ws) e = absurd (not_equal _ e)
row_cmp-exact (v ∷ vs) [] e = absurd (not_equal _ e)
row_cmp-exact (v ∷ vs) (w ∷ ws) e =
    let here : v ≡ w = value_cmp-exact v w (first_equal (value_cmp v w) (row_cmp vs ws) e) in
    let there : vs ≡ ws = row_cmp-exact vs ws (second_equal (value_cmp v w) (row_cmp vs ws) e) in
    (λ i. here i ∷ there i)

same_octets : (s t : List ℕ) → s ≡ t → octets_cmp s t ≡ Equal
same_octets s t e = subst (λ u. octets_cmp s u ≡ Equal) e (tied_itself nat_list_cmp_total s)

-- where both stand at the front of one text, they are one, and so is what stands behind them
pub value-front :
    (kind : ValueKind) (v w : Value) (a b : List ℕ) → IsOfKind kind v → IsOfKind kind w →
    value_text v ++ a ≡ value_text w ++ b → (v ≡ w) × (a ≡ b)
value-front kind v w a b p q e =
    let both : ordering_then (value_cmp v w) (octets_cmp a b) ≡ Equal = sym (value-order kind v w a b p q) ∙ same_octets _ _ e in
    (value_cmp-exact v w (first_equal (value_cmp v w) (octets_cmp a b) both), exact_bytes a b (second_equal (value_cmp v w) (octets_cmp a b) both))

pub row-front :
    (kinds : List ValueKind) (vs ws : List Value) (a b : List ℕ) → AreOfKinds kinds vs → AreOfKinds kinds ws →
    row_text vs ++ a ≡ row_text ws ++ b → (vs ≡ ws) × (a ≡ b)
row-front kinds vs ws a b p q e =
    let both : ordering_then (row_cmp vs ws) (octets_cmp a b) ≡ Equal = sym (row-order kinds vs ws a b p q) ∙ same_octets _ _ e in
    (row_cmp-exact vs ws (first_equal (row_cmp vs ws) (octets_cmp a b) both), exact_bytes a b (second_equal (row_cmp vs ws) (octets_cmp a b) both))
