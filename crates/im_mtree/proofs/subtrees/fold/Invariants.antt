use Rattle.std.proofs.Common.{◌≡◌, length, reverse}
use Rattle.im_mtree.specs.Subtrees.{folded}
use Rattle.im_mtree.proofs.subtrees.fold.Given as goal

abbrev pub invariant-loop-left : goal.invariant-loop-left
invariant-loop-left g l = folded (g.H.Hash32.digest l.hash) (reverse l.lefts) l.root ≡ folded (g.H.Hash32.digest l.hash) (reverse l.subtrees) l.fn.last

abbrev pub decreases-loop-left : goal.decreases-loop-left
decreases-loop-left g l = length l.lefts
