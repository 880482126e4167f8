use Rattle.std.proofs.Common.{◌≡◌, map, take}
use Rattle.im_model.specs.Entries.{entry_digest}
use Rattle.im_mtree.specs.Kept.{IsFrontier}
use Rattle.im_seated_book.proofs.roots.entry_root_over.Given as goal

abbrev pub invariant-loop-i : goal.invariant-loop-i
invariant-loop-i g l = record {
  size : l.tree.size ≡ l.i;
  leaves : IsFrontier (g.H.Hash32.digest l.hash) (map (entry_digest (g.H.Hash32.digest l.hash)) (take l.i l.entries)) l.tree;
}
