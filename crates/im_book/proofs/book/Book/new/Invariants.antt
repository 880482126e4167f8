use Rattle.std.proofs.Common.{◌≡◌, take}
use Rattle.im_mtree.specs.Kept.{IsFrontier}
use Rattle.im_book.specs.Booked.{last_bl, IsBook}
use Rattle.im_book.proofs.book.Book.new.Given as goal

abbrev pub invariant-loop-tx : goal.invariant-loop-tx
invariant-loop-tx g l = record {
  transactions : l.book.transactions ≡ l.yielded;
  book : IsBook (g.H.Hash32.digest l.hash) l.book;
  kept : IsFrontier (g.H.Hash32.digest l.hash) (take l.frontier.size l.book.alhs) l.frontier;
  last : l.frontier.size ≡ last_bl l.book.transactions;
}
