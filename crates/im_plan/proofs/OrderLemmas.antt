-- The order of an ORDER BY is one by which a stable sort may sort.
use Rattle.std.proofs.Common.{◌≡◌, ℕ, Bool, true, false, List, [], ◌∷◌, refl, sym, ◌∙◌, subst}
use Rattle.std.specs.Cmp.{IsTotalOrder, IsStrictWeakOrder, then_total, on_total, back_total}
use Rattle.std.specs.Cmp.Derive.{point_total}
use Rattle.std.specs.Ordering.{is_lt, ordering_reverse, on, flip_args}
use Rattle.std.specs.declared.cmp.Ordering.{Ordering}
use Rattle.std.specs.declared.cmp.Ordering.TheVariants.{Less, Equal, Greater}
use Rattle.std.proofs.lemmas.List.Sorted.{ranks_by}
use Rattle.im_sqltype.specs.Orders.{value_cmp}
use Rattle.im_sqltype.specs.Total.{value_cmp-total}
use Rattle.im_sqltype.specs.declared.values.Value.{Value}
use Rattle.im_sqlparse.specs.declared.statements.OrderTerm.{OrderTerm}
use Rattle.im_sqlmodel.specs.Conditions.{value_named}
use Rattle.im_sqlmodel.specs.Options.{reversed}
use Rattle.im_sqlmodel.specs.Selects.{directed, terms_cmp}
use Rattle.im_sqlmodel.specs.declared.tables.Nameable.{Nameable}

abbrev Row : Type 0
Row = List Value

reversed-is : (o : Ordering) → reversed o ≡ ordering_reverse o
reversed-is Less = refl
reversed-is Equal = refl
reversed-is Greater = refl

-- the greatest first is the same order the other way round
backward : (R : Row → Row → Ordering) → IsTotalOrder R → (x y : Row) → flip_args R x y ≡ reversed (R x y)
backward R o x y = o.antisymm y x ∙ sym (reversed-is (R x y))

abbrev column_cmp : List Nameable → List ℕ → Row → Row → Ordering
column_cmp scope name = on (λ row. value_named scope row name) value_cmp

column-total : (scope : List Nameable) (name : List ℕ) → IsTotalOrder (column_cmp scope name)
column-total scope name = on_total (λ row. value_named scope row name) value_cmp-total

directed-total : (descending : Bool) (R : Row → Row → Ordering) → IsTotalOrder R → IsTotalOrder (λ x y. directed descending (R x y))
directed-total false R o = o
directed-total true R o = subst IsTotalOrder (λ i x y. backward R o x y i) (back_total o)

pub terms-total : (scope : List Nameable) (terms : List OrderTerm) → IsTotalOrder (terms_cmp scope terms)
terms-total scope [] = point_total
terms-total scope (t ∷ ts) = then_total (directed-total t.descending (column_cmp scope t.column) (column-total scope t.column)) (terms-total scope ts)

pub terms-order : (scope : List Nameable) (terms : List OrderTerm) → IsStrictWeakOrder (λ x y. is_lt (terms_cmp scope terms x y))
terms-order scope terms = ranks_by (terms-total scope terms) (λ row. row)
