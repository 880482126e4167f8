use Rattle.std.proofs.Common.{◌≡◌, ◌≤◌, ◌+◌, length, drop}
use Rattle.im_mtree.specs.Ways.{sides, rise}
use Rattle.im_atree.specs.Grows.{meet_both}
use Rattle.im_atree.proofs.growths.climb_both.Given as goal

abbrev pub invariant-loop-term : goal.invariant-loop-term
invariant-loop-term g l = record {
  within : l.place.index ≤ l.place.last;
  exact : length l.terms ≡ l.term-index + length (sides (l.place.last + 1) l.place.index);
  same : rise (meet_both (g.H.Hash32.digest l.hash)) (sides (l.place.last + 1) l.place.index) l.roots (drop l.term-index l.terms)
      ≡ rise (meet_both (g.H.Hash32.digest l.hash)) (sides (l.fn.place.last + 1) l.fn.place.index) l.fn.roots l.terms;
}
