use Rattle.std.proofs.Common.{◌≡◌, ◌<◌, ◌≤◌, ℕ, ◌+◌, ◌^◌, List, ◌++◌, length, take}
use Rattle.im_proof.specs.Built.{growth_first, growth_rest}
use Rattle.im_levels.specs.Edges.{IsEdgeOf}
use Rattle.im_levels.specs.Leveled.{leaves_of, AreStored, IsPart}
use Rattle.im_levels.proofs.WalkLemmas.{IsPaid}
use Rattle.im_levels.proofs.walks.list_down_along.Given as goal

abbrev pub invariant-loop-index : goal.invariant-loop-index
invariant-loop-index g l = record {
  within : l.index < l.part.width;
  part : IsPart l.part.at l.part.width;
  inside : l.part.at + l.part.width ≤ l.n;
  made : IsEdgeOf (g.H.Hash32.digest l.hash) l.digests l.edge;
  first : (leaves : List (List ℕ)) → l.n ≤ length leaves
      → growth_first (g.H.Hash32.digest l.hash) (leaves_of leaves l.part.at l.part.width) (l.index + 1) ≡ growth_first (g.H.Hash32.digest l.hash) (take l.n leaves) l.m;
  rest : (leaves : List (List ℕ)) → l.n ≤ length leaves → AreStored (g.H.Hash32.digest l.hash) leaves l.digests
      → l.terms.items ++ growth_rest (g.H.Hash32.digest l.hash) (leaves_of leaves l.part.at l.part.width) (l.index + 1) ≡ growth_rest (g.H.Hash32.digest l.hash) (take l.n leaves) l.m;
  cost : (b : ℕ) → l.n < 2 ^ b → IsPaid l.fn.steps l.steps b l.part.width;
}

abbrev pub decreases-loop-index : goal.decreases-loop-index
decreases-loop-index g l = l.part.width
