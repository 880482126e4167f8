use Rattle.std.proofs.Common.{take}
use Rattle.std.specs.List.{AllZip}
use Rattle.im_sqlmodel.specs.Rows.{IsStoredRow}
use Rattle.im_sqlsound.proofs.said.rows_said.Given as goal

abbrev pub invariant-loop-version : goal.invariant-loop-version
invariant-loop-version l = AllZip (IsStoredRow l.table) (take l.version-index l.shown) l.rows.items
