use Rattle.std.proofs.Common.{length}
use Rattle.im_index.proofs.SettleLemmas.{IsSettling}
use Rattle.im_index.proofs.merging.settle.Given as goal

abbrev pub invariant-loop-run : goal.invariant-loop-run
invariant-loop-run l = IsSettling l.runs l.older l.fn.newest l.last

abbrev pub decreases-loop-run : goal.decreases-loop-run
decreases-loop-run l = length l.older
