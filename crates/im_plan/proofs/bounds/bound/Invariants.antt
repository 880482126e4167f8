use Rattle.std.proofs.Common.{◌≡◌, drop}
use Rattle.im_sqlmodel.specs.Options.{first_found}
use Rattle.im_plan.specs.Bounds.{bound_by}
use Rattle.im_plan.proofs.bounds.bound.Given as goal

-- what those ahead bind is what all bind
abbrev pub invariant-loop-condition : goal.invariant-loop-condition
invariant-loop-condition l = first_found (bound_by l.name) (drop l.condition-index l.conjuncts) ≡ first_found (bound_by l.name) l.conjuncts
