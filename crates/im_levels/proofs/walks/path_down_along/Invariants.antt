use Rattle.std.proofs.Common.{◌≡◌, ◌<◌, ◌≤◌, ℕ, ◌+◌, ◌^◌, List, ◌++◌, length, take}
use Rattle.im_mtree.specs.Inclusion.{inclusion}
use Rattle.im_levels.specs.Edges.{IsEdgeOf}
use Rattle.im_levels.specs.Leveled.{leaves_of, AreStored, IsPart}
use Rattle.im_levels.proofs.WalkLemmas.{IsPaid}
use Rattle.im_levels.proofs.walks.path_down_along.Given as goal

abbrev pub invariant-loop-part : goal.invariant-loop-part
invariant-loop-part g l = record {
  within : l.index < l.part.width;
  part : IsPart l.part.at l.part.width;
  inside : l.part.at + l.part.width ≤ l.n;
  made : IsEdgeOf (g.H.Hash32.digest l.hash) l.digests l.edge;
  path : (leaves : List (List ℕ)) → l.n ≤ length leaves → AreStored (g.H.Hash32.digest l.hash) leaves l.digests
      → l.terms.items ++ inclusion (g.H.Hash32.digest l.hash) (leaves_of leaves l.part.at l.part.width) l.index ≡ inclusion (g.H.Hash32.digest l.hash) (take l.n leaves) l.i;
  cost : (b : ℕ) → l.n < 2 ^ b → IsPaid l.fn.steps l.steps b l.part.width;
}

abbrev pub decreases-loop-part : goal.decreases-loop-part
decreases-loop-part g l = l.part.width
