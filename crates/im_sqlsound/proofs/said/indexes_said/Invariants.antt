use Rattle.std.proofs.Common.{take}
use Rattle.std.specs.List.{AllZip}
use Rattle.im_sqlmodel.specs.Rows.{IsIndexVersion}
use Rattle.im_sqlsound.proofs.said.indexes_said.Given as goal

abbrev pub invariant-loop-version : goal.invariant-loop-version
invariant-loop-version l = AllZip (IsIndexVersion l.table) (take l.version-index l.shown) l.indexes.items
