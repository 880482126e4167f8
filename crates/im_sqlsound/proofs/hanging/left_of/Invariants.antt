use Rattle.std.proofs.Common.{◌≡◌, ◌+◌, length, sum_by, take}
use Rattle.im_sqlsound.specs.declared.found.TableFound.{TableFound}
use Rattle.im_sqlsound.proofs.hanging.left_of.Given as goal

abbrev pub invariant-loop-found : goal.invariant-loop-found
invariant-loop-found l = l.left + sum_by (λ (f : TableFound). length f.indexes) (take l.found-index l.tables) + sum_by (λ (f : TableFound). length f.rows) (take l.found-index l.tables) ≡ l.number
