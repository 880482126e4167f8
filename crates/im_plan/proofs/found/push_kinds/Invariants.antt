use Rattle.std.proofs.Common.{◌≡◌, ◌++◌, take}
use Rattle.im_plan.specs.Plans.{kinds_at}
use Rattle.im_plan.proofs.found.push_kinds.Given as goal

abbrev pub invariant-loop-number : goal.invariant-loop-number
invariant-loop-number l = l.kinds.items ≡ l.initial.kinds.items ++ kinds_at l.table (take l.number-index l.numbers)
