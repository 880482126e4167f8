use Rattle.std.proofs.Common.{length}
use Rattle.im_disk.specs.Records.{files_of}
use Rattle.im_image.proofs.PieceLemmas.{LongSoFar}
use Rattle.im_image.proofs.settled.settled_len.Given as goal

abbrev pub invariant-loop-call : goal.invariant-loop-call
invariant-loop-call l = LongSoFar (files_of l.first) l.calls l.rest l.file l.len

abbrev pub decreases-loop-call : goal.decreases-loop-call
decreases-loop-call l = length l.rest
