use Rattle.std.proofs.Common.{length, reverse}
use Rattle.im_image.specs.Remains.{ranges_of}
use Rattle.im_image.proofs.CallLemmas.{IsFreeSoFar}
use Rattle.im_image.proofs.ranges.stretch_at.Given as goal

abbrev pub invariant-loop-call : goal.invariant-loop-call
invariant-loop-call l = IsFreeSoFar (ranges_of (reverse l.calls) l.file) (ranges_of (reverse l.rest) l.file) l.place l.room l.free

abbrev pub decreases-loop-call : goal.decreases-loop-call
decreases-loop-call l = length l.rest
