-- Checks in their order, and the first of them that fails.
use Rattle.std.specs.Prelude.{Bool, List, [], ◌∷◌, Result, Ok, Err, if◌then◌else◌}

-- a check: whether it holds, and the fault that is answered where it doesn't
abbrev pub Check : Type 0 → Type 0
Check F = Bool × F

-- the fault of the first check that doesn't hold
abbrev pub first_fail : {F : Type 0} → List (Check F) → Result (Unit {0}) F
first_fail [] = Ok tt
first_fail (check ∷ checks) = if check.0 then first_fail checks else Err check.1
