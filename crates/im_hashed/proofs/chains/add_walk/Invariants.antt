use Rattle.std.proofs.Common.{◌≡◌, ◌+◌, drop}
use Rattle.im_carried.specs.Hashed.{walk_strings}
use Rattle.im_hashed.proofs.WalkLemmas.{Remains}
use Rattle.im_hashed.proofs.chains.add_walk.Given as goal

abbrev pub invariant-loop-i : goal.invariant-loop-i
invariant-loop-i g l = record {
  counted : l.k ≡ l.from + l.i;
  remains : Remains l.initial.out.items l.out.items (walk_strings (g.H.Hash32.digest l.hash) l.size l.k l.alh (drop l.i l.inners) (drop l.i l.paths)) (walk_strings (g.H.Hash32.digest l.hash) l.size l.from l.start l.inners l.paths);
}
