use Rattle.std.proofs.Common.{◌≡◌, ◌-◌, ◌++◌, ℕ, List, take}
use Rattle.im_levels.specs.Edges.{IsEdgeOf}
use Rattle.im_levels.specs.Leveled.{IsLeveled}
use Rattle.im_proof.specs.Built.{paths_from}
use Rattle.im_dual.proofs.build.paths.Given as goal

abbrev pub invariant-loop-i : goal.invariant-loop-i
invariant-loop-i g l = record {
  paths : (leaves : List (List ℕ)) → IsLeveled (g.H.Hash32.digest l.hash) leaves l.tree
      → l.paths.items ++ paths_from (g.H.Hash32.digest l.hash) (take l.size leaves) l.i (l.to - l.i)
      ≡ paths_from (g.H.Hash32.digest l.hash) (take l.size leaves) l.from (l.to - l.from);
  made : IsEdgeOf (g.H.Hash32.digest l.hash) l.tree.digests l.edge;
}
