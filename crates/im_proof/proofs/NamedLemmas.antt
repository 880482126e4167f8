-- The first check that fails of checks whose faults are named otherwise.
use Rattle.std.proofs.Common.{◌≡◌, List, [], ◌∷◌, refl, Bool, true, false, if◌then◌else◌, Result, Ok, Err, ap, ◌∙◌}
use Rattle.im_mtree.specs.Checks.{Check, first_fail}
use Rattle.im_proof.specs.Duals.{as_faults}

-- a result with its fault named otherwise
abbrev pub named : {F G : Type 0} → (F → G) → Result (Unit {0}) F → Result (Unit {0}) G
named name (Ok u) = Ok u
named name (Err f) = Err (name f)

name-step : {F G : Type 0} → (name : F → G) (holds : Bool) (f : F) (r : Result (Unit {0}) F) (s : Result (Unit {0}) G) → s ≡ named name r
    → (if holds then s else Err (name f)) ≡ named name (if holds then r else Err f)
name-step name true f r s e = e
name-step name false f r s e = refl

-- the fault found is the one named otherwise
pub fail_named : {F G : Type 0} → (name : F → G) (checks : List (Check F)) → first_fail (as_faults name checks) ≡ named name (first_fail checks)
fail_named name [] = refl
fail_named name (check ∷ checks) =
    name-step name check.0 check.1 (first_fail checks) (first_fail (as_faults name checks)) (fail_named name checks)

-- where all hold
pub holds_named : {F G : Type 0} → (name : F → G) (checks : List (Check F)) → first_fail checks ≡ Ok tt → first_fail (as_faults name checks) ≡ Ok tt
holds_named name checks e = fail_named name checks ∙ ap (named name) e

-- where one fails
pub fails_named : {F G : Type 0} → (name : F → G) (checks : List (Check F)) (f : F) → first_fail checks ≡ Err f → first_fail (as_faults name checks) ≡ Err (name f)
fails_named name checks f e = fail_named name checks ∙ ap (named name) e
