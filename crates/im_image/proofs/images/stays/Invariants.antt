use Rattle.std.proofs.Common.{◌-◌, ◌≤◌, reverse}
use Rattle.im_disk.specs.Disk.{seen_after}
use Rattle.im_disk.specs.Records.{files_of}
use Rattle.im_image.specs.Remains.{ranges_of}
use Rattle.im_image.proofs.StayLemmas.{StaysBelow}
use Rattle.im_image.proofs.images.stays.Given as goal

abbrev pub invariant-loop-place : goal.invariant-loop-place
invariant-loop-place l = record {
  bound : l.place ≤ l.len;
  below : StaysBelow (ranges_of (reverse l.since) l.file) l.left (seen_after (files_of l.first) (reverse l.until) l.file) l.place;
}

abbrev pub decreases-loop-place : goal.decreases-loop-place
decreases-loop-place l = l.len - l.place
