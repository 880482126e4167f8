use Rattle.im_core.proofs.BatchLemmas.{AreMade}
use Rattle.im_core.proofs.batches.records_behind.Given as goal

abbrev pub invariant-loop-before : goal.invariant-loop-before
invariant-loop-before g l = AreMade (g.H.Hash32.digest l.hash) l.book.transactions l.durable l.before l.ends l.log_ends l.records.items
