use Rattle.std.proofs.Common.{length}
use Rattle.im_index.proofs.FoundLemmas.{IsLooked}
use Rattle.im_index.proofs.search.last_of.Given as goal

abbrev pub invariant-loop-run : goal.invariant-loop-run
invariant-loop-run g l = IsLooked l.runs l.older l.key l.n l.fn.steps l.steps

abbrev pub decreases-loop-run : goal.decreases-loop-run
decreases-loop-run g l = length l.older
