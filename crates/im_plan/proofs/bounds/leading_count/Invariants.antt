use Rattle.std.proofs.Common.{◌≡◌, ◌+◌, length, drop}
use Rattle.im_plan.specs.Bounds.{leading}
use Rattle.im_plan.proofs.bounds.leading_count.Given as goal

-- those so far are bound
abbrev pub invariant-loop-count : goal.invariant-loop-count
invariant-loop-count l = l.count + length (leading l.conjuncts l.table (drop l.count l.numbers)) ≡ length (leading l.conjuncts l.table l.numbers)
