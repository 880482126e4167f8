use Rattle.std.proofs.Common.{◌≡◌, ◌≤◌, ◌+◌}
use Rattle.im_mtree.specs.Ways.{sides, IsPassedTo}
use Rattle.im_mtree.proofs.places.meeting.Given as goal

abbrev pub invariant-loop-place : goal.invariant-loop-place
invariant-loop-place l = record {
  within : l.place.index ≤ l.place.last;
  lower : l.place.last ≤ l.fn.place.last;
  same : sides (l.place.last + 1) l.place.index ≡ sides (l.fn.place.last + 1) l.fn.place.index;
  passed : IsPassedTo l.fn.place l.place;
}

abbrev pub decreases-loop-place : goal.decreases-loop-place
decreases-loop-place l = l.place.last
