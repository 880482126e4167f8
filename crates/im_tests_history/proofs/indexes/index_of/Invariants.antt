use Rattle.std.proofs.Common.{take}
use Rattle.im_index.specs.Indexed.{IsIndexOf}
use Rattle.im_tests_history.proofs.indexes.index_of.Given as goal

abbrev pub invariant-loop-tx : goal.invariant-loop-tx
invariant-loop-tx l = IsIndexOf l.index (take l.tx-index l.history)
