use Rattle.std.proofs.Common.{◌≡◌, ℕ, ◌+◌, List, ◌++◌, take}
use Rattle.im_mtree.specs.Kept.{IsFrontier}
use Rattle.im_mtree.proofs.frontiers.Frontier.extend.Given as goal

abbrev pub invariant-loop-digest : goal.invariant-loop-digest
invariant-loop-digest g l = record {
  size : l.self.size ≡ l.initial.self.size + l.digest-index;
  leaves : (leaves : List (List ℕ)) → IsFrontier (g.H.Hash32.digest l.hash) leaves l.initial.self
      → IsFrontier (g.H.Hash32.digest l.hash) (leaves ++ take l.digest-index l.digests) l.self;
}
