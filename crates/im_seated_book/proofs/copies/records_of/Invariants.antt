use Rattle.std.proofs.Common.{◌≡◌, map, take}
use Rattle.im_seated_book.proofs.copies.records_of.Given as goal

abbrev pub invariant-loop-k : goal.invariant-loop-k
invariant-loop-k l = record {
  transactions : map (λ r. r.tx) l.records.items ≡ take l.k l.transactions;
  refs : map (λ r. r.refs) l.records.items ≡ take l.k l.refs;
  alhs : map (λ r. r.alh) l.records.items ≡ take l.k l.alhs;
}
