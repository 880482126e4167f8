use Rattle.std.proofs.Common.{◌≡◌, ◌++◌, map, take}
use Rattle.im_sqlmodel.specs.Writes.{entry_written}
use Rattle.im_sqlsound.proofs.entered.push_row.Given as goal

abbrev pub invariant-loop-index : goal.invariant-loop-index
invariant-loop-index l = l.entries.items ≡ l.initial.entries.items ++ map (entry_written l.table l.row) (take l.index-index l.indexes)
