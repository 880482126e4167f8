use Rattle.std.proofs.Common.{◌≡◌, ◌++◌, map, flat_map, take}
use Rattle.im_sqlmodel.specs.Writes.{entry_written}
use Rattle.im_sqlmodel.specs.declared.rows.StoredRow.{StoredRow}
use Rattle.im_sqlsound.proofs.entered.push_entries.Given as goal

abbrev pub invariant-loop-stored : goal.invariant-loop-stored
invariant-loop-stored l = l.entries.items ≡ l.initial.entries.items ++ flat_map (λ (s : StoredRow). map (entry_written l.found.table s.row) l.indexes) (take l.stored-index l.rows)
