use Rattle.std.proofs.Common.{◌≡◌, ◌∷◌, map, take}
use Rattle.im_sqlmodel.specs.Writes.{row_written, entry_written}
use Rattle.im_catalog.proofs.entries.all_written.Given as goal

-- the row, and the entries of the indexes so far
abbrev pub invariant-loop-index : goal.invariant-loop-index
invariant-loop-index l = l.written.items ≡ row_written l.table l.row ∷ map (entry_written l.table l.row) (take l.index-index l.indexes)
