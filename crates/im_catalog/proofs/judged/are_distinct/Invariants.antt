use Rattle.std.proofs.Common.{◌≢◌, AllPairs, take}
use Rattle.im_catalog.proofs.judged.are_distinct.Given as goal

abbrev pub invariant-loop-at : goal.invariant-loop-at
invariant-loop-at l = AllPairs (λ a b. a ≢ b) (take l.at l.numbers)
