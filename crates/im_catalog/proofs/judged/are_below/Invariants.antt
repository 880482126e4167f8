use Rattle.std.proofs.Common.{◌<◌, All, take}
use Rattle.im_catalog.proofs.judged.are_below.Given as goal

abbrev pub invariant-loop-number : goal.invariant-loop-number
invariant-loop-number l = All (λ n. n < l.count) (take l.number-index l.numbers)
