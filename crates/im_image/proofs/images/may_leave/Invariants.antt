use Rattle.std.proofs.Common.{ℕ, ◌<◌, reverse}
use Rattle.im_disk.specs.Disk.{seen_after}
use Rattle.im_disk.specs.Records.{files_of}
use Rattle.im_image.specs.Remains.{since_sync, until_sync, ranges_of, MayRemain}
use Rattle.im_image.proofs.images.may_leave.Given as goal

abbrev pub invariant-loop-file : goal.invariant-loop-file
invariant-loop-file l =
    (k : ℕ) → k < l.file → MayRemain (seen_after (files_of l.first) (until_sync (reverse l.calls)) k) (ranges_of (since_sync (reverse l.calls)) k) (files_of l.image k)
