use Rattle.std.proofs.Common.{◌≢◌, All, take}
use Rattle.im_sqlsound.specs.declared.found.TableFound.{TableFound}
use Rattle.im_sqlsound.proofs.numbered.is_free.Given as goal

-- none so far has it
abbrev pub invariant-loop-found : goal.invariant-loop-found
invariant-loop-found l = All (λ (f : TableFound). f.table.tid ≢ l.tid) (take l.found-index l.tables)
