use Rattle.std.proofs.Common.{◌≡◌, ◌<◌, ◌≤◌, ◌+◌}
use Rattle.im_atree.specs.Grows.{grow_sides}
use Rattle.im_atree.proofs.growths.first_place.Given as goal

abbrev pub invariant-loop-place : goal.invariant-loop-place
invariant-loop-place l = record {
  within : l.place.index < l.place.last;
  lower : l.place.last ≤ l.fn.place.last;
  same : grow_sides (l.place.index + 1) (l.place.last + 1) ≡ grow_sides (l.fn.place.index + 1) (l.fn.place.last + 1);
}

abbrev pub decreases-loop-place : goal.decreases-loop-place
decreases-loop-place l = l.place.last
