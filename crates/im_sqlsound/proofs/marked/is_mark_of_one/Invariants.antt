use Rattle.std.proofs.Common.{◌≢◌, All, take}
use Rattle.im_sqlmodel.specs.Keys.{mark_key}
use Rattle.im_sqlsound.specs.declared.found.TableFound.{TableFound}
use Rattle.im_sqlsound.proofs.marked.is_mark_of_one.Given as goal

-- it is none's so far
abbrev pub invariant-loop-found : goal.invariant-loop-found
invariant-loop-found l = All (λ (f : TableFound). l.key ≢ mark_key f.table.tid) (take l.found-index l.tables)
