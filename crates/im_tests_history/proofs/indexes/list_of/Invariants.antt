use Rattle.std.proofs.Common.{take}
use Rattle.im_plain.specs.Listed.{IsListOf}
use Rattle.im_tests_history.proofs.indexes.list_of.Given as goal

abbrev pub invariant-loop-tx : goal.invariant-loop-tx
invariant-loop-tx l = IsListOf l.index (take l.tx-index l.history)
