use Rattle.std.proofs.Common.{length}
use Rattle.im_image.proofs.CallLemmas.{Unsynced}
use Rattle.im_image.proofs.ranges.synced_calls.Given as goal

abbrev pub invariant-loop-call : goal.invariant-loop-call
invariant-loop-call l = Unsynced l.calls l.rest

abbrev pub decreases-loop-call : goal.decreases-loop-call
decreases-loop-call l = length l.rest
