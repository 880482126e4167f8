-- A row that meets a condition has the values that its conjuncts say.
use Rattle.std.proofs.Common.{◌≡◌, ◌≢◌, ◌||◌, inl, inr, ◌⊎◌, ℕ, suc, Bool, true, false, true≢false, if◌then◌else◌, List, [], ◌∷◌, bytes_eq, Option, Some, None, refl, sym, ap, ◌∙◌}
use Rattle.std.proofs.lemmas.Bool.{and_parts}
use Rattle.std.proofs.lemmas.Option.{none-some}
use Rattle.std.proofs.lemmas.Slice.Eq.{bytes_eq-Decides}
use Rattle.std.specs.List.{AllByRecursion, list_all}
use Rattle.std.specs.Option.{option_or}
use Rattle.std.specs.Ordering.{is_eq}
use Rattle.std.specs.declared.cmp.Ordering.{Ordering}
use Rattle.std.specs.declared.cmp.Ordering.TheVariants.{Less, Equal, Greater}
use Rattle.im_sqltype.specs.Orders.{value_cmp}
use Rattle.im_sqltype.specs.declared.values.Value.{Value}
use Rattle.im_sqltype.specs.declared.values.Value.TheVariants.{Null, Integer, Boolean, Varchar, Blob}
use Rattle.im_sqltype.proofs.FrontLemmas.{value_cmp-exact}
use Rattle.im_sqlparse.specs.Formed.{Level}
use Rattle.im_sqlparse.specs.declared.statements.Condition.{Condition, out-Condition}
use Rattle.im_sqlparse.specs.declared.statements.Condition.TheOpen.{Condition-F}
use Rattle.im_sqlparse.specs.declared.statements.Literal.{Literal}
use Rattle.im_sqlparse.specs.declared.statements.Operand.{Operand}
use Rattle.im_sqlparse.specs.declared.statements.Operand.TheVariants as operand
use Rattle.im_sqlparse.specs.declared.statements.Operator.{Operator}
use Rattle.im_sqlparse.specs.declared.statements.Operator.TheVariants as operator
use Rattle.im_sqlmodel.specs.Conditions.{literal_value, is_null, value_named, operand_value, meets_at, meets_to, meets}
use Rattle.im_sqlmodel.specs.Options.{first_found}
use Rattle.im_sqlmodel.specs.declared.tables.Nameable.{Nameable}
use Rattle.im_plan.specs.Bounds.{listed, only_listed, conjuncts, bound_by_sides, bound_at, bound_by, bound}

some-same : {A : Type 0} (x y d : A) → Some x ≡ Some y → x ≡ y
some-same {A} x y d e = ap (λ (o : Option A). elim o [ Some z ↦ z | None ↦ d ]) e

equal-is : (o : Ordering) → is_eq o ≡ true → o ≡ Equal
equal-is Less e = absurd (true≢false (sym e))
equal-is Equal e = refl
equal-is Greater e = absurd (true≢false (sym e))

null-is : (v : Value) → is_null v ≡ true → v ≡ Null
null-is Null e = refl
null-is (Integer n) e = absurd (true≢false (sym e))
null-is (Boolean b) e = absurd (true≢false (sym e))
null-is (Varchar octets) e = absurd (true≢false (sym e))
null-is (Blob octets) e = absurd (true≢false (sym e))

-- a name that is the column's, and what is then bound
named : (b : Bool) (v w : Value) → (if b then Some v else None) ≡ Some w → (b ≡ true) × (v ≡ w)
named true v w e = (refl, some-same v w v e)
named false v w e = absurd (none-some w e)

-- ---- one condition

sides-bound : (scope : List Nameable) (row : List Value) (name : List ℕ) (left right : Operand) (v : Value) → bound_by_sides name left right ≡ Some v
    → value_cmp (operand_value scope row left) (operand_value scope row right) ≡ Equal → value_named scope row name ≡ v
sides-bound scope row name (operand.Column c) (operand.Literal found) v e same =
    let is = named (bytes_eq c name) (literal_value found) v e in
    ap (value_named scope row) (sym ((bytes_eq-Decides c name).0 is.0)) ∙ value_cmp-exact (value_named scope row c) (literal_value found) same ∙ is.1
sides-bound scope row name (operand.Literal found) (operand.Column c) v e same =
    let is = named (bytes_eq c name) (literal_value found) v e in
    ap (value_named scope row) (sym ((bytes_eq-Decides c name).0 is.0)) ∙ sym (value_cmp-exact (literal_value found) (value_named scope row c) same) ∙ is.1
sides-bound scope row name (operand.Column c) (operand.Column d) v e same = absurd (none-some v e)
sides-bound scope row name (operand.Literal found) (operand.Literal other) v e same = absurd (none-some v e)

compare-bound : (inner : Condition → Bool) (scope : List Nameable) (row : List Value) (name : List ℕ) (left right : Operand) (o : Operator) (at : ℕ) (v : Value)
    → bound_at name (Condition-F.Compare left o at right) ≡ Some v → meets_at inner scope row (Condition-F.Compare left o at right) ≡ true → value_named scope row name ≡ v
compare-bound inner scope row name left right operator.Equal at v e met =
    sides-bound scope row name left right v e (equal-is (value_cmp (operand_value scope row left) (operand_value scope row right)) met)
compare-bound inner scope row name left right operator.Unequal at v e met = absurd (none-some v e)
compare-bound inner scope row name left right operator.Less at v e met = absurd (none-some v e)
compare-bound inner scope row name left right operator.AtMost at v e met = absurd (none-some v e)
compare-bound inner scope row name left right operator.Greater at v e met = absurd (none-some v e)
compare-bound inner scope row name left right operator.AtLeast at v e met = absurd (none-some v e)

null-bound : (inner : Condition → Bool) (scope : List Nameable) (row : List Value) (name c : List ℕ) (negated : Bool) (v : Value)
    → bound_at name (Condition-F.Nullness c negated) ≡ Some v → meets_at inner scope row (Condition-F.Nullness c negated) ≡ true → value_named scope row name ≡ v
null-bound inner scope row name c true v e met = absurd (none-some v e)
null-bound inner scope row name c false v e met =
    let is = named (bytes_eq c name) Null v e in
    ap (value_named scope row) (sym ((bytes_eq-Decides c name).0 is.0)) ∙ null-is (value_named scope row c) met ∙ is.1

level-bound : (inner : Condition → Bool) (scope : List Nameable) (row : List Value) (name : List ℕ) (l : Level) (v : Value)
    → bound_at name l ≡ Some v → meets_at inner scope row l ≡ true → value_named scope row name ≡ v
level-bound inner scope row name (Condition-F.Compare left o at right) v e met = compare-bound inner scope row name left right o at v e met
level-bound inner scope row name (Condition-F.Nullness c negated) v e met = null-bound inner scope row name c negated v e met
level-bound inner scope row name (Condition-F.Any cs) v e met = absurd (none-some v e)
level-bound inner scope row name (Condition-F.All cs) v e met = absurd (none-some v e)
level-bound inner scope row name (Condition-F.Not c) v e met = absurd (none-some v e)

-- ---- of several

-- the row meets each of these
abbrev pub AreMet : List Nameable → List Value → List Condition → Type 0
AreMet scope row cs = AllByRecursion (λ c. (levels : ℕ) × (meets_to (suc levels) scope row c ≡ true)) cs

or-case : {A : Type 0} (o p : Option A) (v : A) → option_or o p ≡ Some v → (o ≡ Some v) ⊎ (p ≡ Some v)
or-case None p v e = inr e
or-case (Some x) p v e = inl e

pub bound-value : (scope : List Nameable) (row : List Value) (cs : List Condition) (name : List ℕ) (v : Value) → AreMet scope row cs → bound cs name ≡ Some v → value_named scope row name ≡ v
bound-value scope row [] name v met e = absurd (none-some v e)
bound-value scope row (c ∷ cs) name v met e = elim (or-case (bound_by name c) (first_found (bound_by name) cs) v e) [
  | inl here ↦ level-bound (meets_to met.0.0 scope row) scope row name (out-Condition c) v here met.0.1
  | inr behind ↦ bound-value scope row cs name v met.1 behind
]

all-met : (levels : ℕ) (scope : List Nameable) (row : List Value) (cs : List Condition) → list_all (meets_to (suc levels) scope row) cs ≡ true → AreMet scope row cs
all-met levels scope row [] e = tt
all-met levels scope row (c ∷ cs) e =
    let parts = and_parts (meets_to (suc levels) scope row c) (list_all (meets_to (suc levels) scope row) cs) e in
    ((levels, parts.0), all-met levels scope row cs parts.1)

or-false : (b : Bool) → (b || false) ≡ true → b ≡ true
or-false true e = refl
or-false false e = e

listed-met : (levels : ℕ) (scope : List Nameable) (row : List Value) (l : Level) → meets_at (meets_to (suc levels) scope row) scope row l ≡ true → AreMet scope row (listed l)
listed-met levels scope row (Condition-F.All cs) e = all-met levels scope row cs e
listed-met levels scope row (Condition-F.Any cs) e = tt
listed-met levels scope row (Condition-F.Not c) e = tt
listed-met levels scope row (Condition-F.Compare left o at right) e = tt
listed-met levels scope row (Condition-F.Nullness c negated) e = tt

only-met : (levels : ℕ) (scope : List Nameable) (row : List Value) (l : Level) → meets_at (meets_to (suc (suc levels)) scope row) scope row l ≡ true → AreMet scope row (only_listed l)
only-met levels scope row (Condition-F.Any []) e = tt
only-met levels scope row (Condition-F.Any (c ∷ [])) e = listed-met levels scope row (out-Condition c) (or-false (meets_to (suc (suc levels)) scope row c) e)
only-met levels scope row (Condition-F.Any (c ∷ d ∷ cs)) e = tt
only-met levels scope row (Condition-F.All cs) e = tt
only-met levels scope row (Condition-F.Not c) e = tt
only-met levels scope row (Condition-F.Compare left o at right) e = tt
only-met levels scope row (Condition-F.Nullness c negated) e = tt

-- what a row that is meant meets
pub conjuncts-met : (scope : List Nameable) (row : List Value) (filter : Option Condition) → meets scope filter row ≡ true → AreMet scope row (conjuncts filter)
conjuncts-met scope row None met = tt
conjuncts-met scope row (Some c) met = only-met 128 scope row (out-Condition c) met
