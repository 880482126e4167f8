use Rattle.std.proofs.Common.{◌≡◌, ◌+◌, drop}
use Rattle.im_model.specs.Chains.{chain}
use Rattle.im_mtree.specs.Checks.{first_fail}
use Rattle.im_proof.specs.ChainChecks.{path_checks_from}
use Rattle.im_dual.proofs.advance.check_paths.Given as goal

abbrev pub invariant-loop-i : goal.invariant-loop-i
invariant-loop-i g l = record {
  at : l.k ≡ l.from + l.i;
  same : chain (g.H.Hash32.digest l.hash) l.alh l.k (drop l.i l.inners) ≡ chain (g.H.Hash32.digest l.hash) l.start l.from l.inners;
  checked : first_fail (path_checks_from (g.H.Hash32.digest l.hash) l.tree.size l.tree.root l.k l.alh (drop l.i l.inners) (drop l.i l.paths))
      ≡ first_fail (path_checks_from (g.H.Hash32.digest l.hash) l.tree.size l.tree.root l.from l.start l.inners l.paths);
}
