use Rattle.std.proofs.Common.{◌≡◌, map}
use Rattle.im_plan.proofs.selects.values_of.Given as goal

abbrev pub invariant-loop-one : goal.invariant-loop-one
invariant-loop-one l = l.rows.items ≡ map (λ s. s.row) l.yielded
