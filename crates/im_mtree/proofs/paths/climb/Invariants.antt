use Rattle.std.proofs.Common.{◌≡◌, ◌≤◌, ◌+◌, length, drop}
use Rattle.im_mtree.specs.Ways.{sides, rise, meet}
use Rattle.im_mtree.proofs.paths.climb.Given as goal

abbrev pub invariant-loop-term : goal.invariant-loop-term
invariant-loop-term g l = record {
  within : l.place.index ≤ l.place.last;
  exact : length l.path ≡ l.term-index + length (sides (l.place.last + 1) l.place.index);
  same : rise (meet (g.H.Hash32.digest l.hash)) (sides (l.place.last + 1) l.place.index) l.digest (drop l.term-index l.path)
      ≡ rise (meet (g.H.Hash32.digest l.hash)) (sides (l.fn.place.last + 1) l.fn.place.index) l.initial.digest l.path;
}
