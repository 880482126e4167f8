-- Levels of conditions, counted down.
use Rattle.std.proofs.Common.{◌≡◌, ◌-◌, ◌<◌, ℕ, zero, suc, false, List, None, refl, ap, arith}
use Rattle.im_sqltype.specs.declared.values.Value.{Value}
use Rattle.im_sqlparse.specs.declared.statements.Condition.{Condition}
use Rattle.im_sqlmodel.specs.Conditions.{fault_by, fault_to, meets_by, meets_to}
use Rattle.im_sqlmodel.specs.declared.tables.Nameable.{Nameable}

pub fault-none : (levels : ℕ) (scope : List Nameable) (c : Condition) → levels ≡ 0 → None ≡ fault_to levels scope c
fault-none zero scope c none = refl
fault-none (suc n) scope c none = absurd (omega arith)

pub fault-step : (levels : ℕ) (scope : List Nameable) (c : Condition) → 0 < levels → fault_to levels scope c ≡ fault_by (fault_to (levels - 1) scope) scope c
fault-step zero scope c some = absurd (omega arith)
fault-step (suc n) scope c some =
    let e : n ≡ suc n - 1 = omega arith in
    ap (λ m. fault_by (fault_to m scope) scope c) e

pub meets-none : (levels : ℕ) (scope : List Nameable) (row : List Value) (c : Condition) → levels ≡ 0 → false ≡ meets_to levels scope row c
meets-none zero scope row c none = refl
meets-none (suc n) scope row c none = absurd (omega arith)

pub meets-step : (levels : ℕ) (scope : List Nameable) (row : List Value) (c : Condition) → 0 < levels
    → meets_to levels scope row c ≡ meets_by (meets_to (levels - 1) scope row) scope row c
meets-step zero scope row c some = absurd (omega arith)
meets-step (suc n) scope row c some =
    let e : n ≡ suc n - 1 = omega arith in
    ap (λ m. meets_by (meets_to m scope row) scope row c) e
