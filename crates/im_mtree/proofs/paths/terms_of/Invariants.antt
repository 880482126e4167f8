use Rattle.std.proofs.Common.{◌≡◌, ◌<◌, ◌≤◌, ◌+◌, length}
use Rattle.im_model.specs.Paths.{path_length}
use Rattle.im_mtree.specs.Ways.{sides, Meets}
use Rattle.im_mtree.proofs.paths.terms_of.Given as goal

abbrev pub invariant-loop-place : goal.invariant-loop-place
invariant-loop-place l = record {
  within : l.place.index ≤ l.place.last;
  meets : 0 < l.place.last → Meets l.place;
  counted : path_length l.width l.i ≡ l.count + length (sides (l.place.last + 1) l.place.index);
}

abbrev pub decreases-loop-place : goal.decreases-loop-place
decreases-loop-place l = l.place.last
