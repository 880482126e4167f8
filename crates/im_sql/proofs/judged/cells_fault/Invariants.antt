use Rattle.std.proofs.Common.{◌≡◌, drop}
use Rattle.im_sqlmodel.specs.Writes.{cells_fault}
use Rattle.im_sql.proofs.FitLemmas.{FitBelow}
use Rattle.im_sql.proofs.judged.cells_fault.Given as goal

-- nothing is wrong with the columns so far: each value fits
abbrev pub invariant-loop-at : goal.invariant-loop-at
invariant-loop-at l =
    (cells_fault l.table l.i l.at (drop l.at l.table.columns) (drop l.at l.row) ≡ cells_fault l.table l.i 0 l.table.columns l.row)
    × FitBelow l.table.columns l.row l.at
