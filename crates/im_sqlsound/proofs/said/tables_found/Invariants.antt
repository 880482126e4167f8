use Rattle.std.proofs.Common.{take}
use Rattle.std.specs.List.{AllZip}
use Rattle.im_sqlsound.specs.Sounding.{IsFoundBy}
use Rattle.im_sqlsound.proofs.said.tables_found.Given as goal

-- the tables of the versions so far
abbrev pub invariant-loop-version : goal.invariant-loop-version
invariant-loop-version l = AllZip (IsFoundBy l.shown) (take l.version-index l.said) l.tables.items
