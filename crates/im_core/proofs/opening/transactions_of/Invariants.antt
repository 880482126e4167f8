use Rattle.std.proofs.Common.{◌≡◌}
use Rattle.im_opening.specs.Reach.{txs_of}
use Rattle.im_core.proofs.opening.transactions_of.Given as goal

abbrev pub invariant-loop-record : goal.invariant-loop-record
invariant-loop-record l = l.transactions.items ≡ txs_of l.yielded
