use Rattle.std.proofs.Common.{◌≡◌, false, All, take}
use Rattle.im_versions.specs.Versions.{begins_with}
use Rattle.im_sqlmodel.specs.Keys.{rows_prefix}
use Rattle.im_sqlsound.specs.declared.found.TableFound.{TableFound}
use Rattle.im_sqlsound.proofs.stepping.is_of_one.Given as goal

-- it is none's so far
abbrev pub invariant-loop-found : goal.invariant-loop-found
invariant-loop-found l = All (λ (f : TableFound). begins_with (rows_prefix f.table.tid) l.key ≡ false) (take l.found-index l.tables)
