use Rattle.std.proofs.Common.{ℕ, ◌+◌, List, length}
use Rattle.im_mtree.specs.Kept.{kept, ones, IsFrontier}
use Rattle.im_mtree.proofs.OnesLemmas.{IsHeight}
use Rattle.im_mtree.proofs.GrowthLemmas.{IsGrowing}
use Rattle.im_mtree.proofs.subtrees.add_leaf.Given as goal

abbrev pub invariant-loop-count : goal.invariant-loop-count
invariant-loop-count g l = record {
  height : IsHeight (ones (l.fn.size + 1)) (length l.stack.items) l.count;
  leaves : (leaves : List (List ℕ)) → IsFrontier (g.H.Hash32.digest l.hash) leaves (kept l.fn.stack.items l.fn.size)
      → IsGrowing (g.H.Hash32.digest l.hash) leaves l.digest l.stack.items l.count l.root;
}

abbrev pub decreases-loop-count : goal.decreases-loop-count
decreases-loop-count g l = l.count
