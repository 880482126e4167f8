use Rattle.std.proofs.Common.{◌≤◌, List, length, map, take, drop}
use Rattle.im_model.specs.History.{IsHistory}
use Rattle.im_model.specs.declared.transactions.Transaction.{Transaction}
use Rattle.im_sqlmodel.specs.Kept.{IsSqlKept, IsTableOf}
use Rattle.im_sqlmodel.specs.Rows.{IndexesAre, RowsAre}
use Rattle.im_sqlmodel.specs.Writes.{row_given}
use Rattle.im_sqlmodel.specs.declared.rows.StoredRow.{StoredRow}
use Rattle.im_sql.proofs.GoingLemmas.{IsGoing}
use Rattle.im_sql.proofs.inserting.write_rows.Given as goal

-- over the rows that stood, the rest of the definition's work is the whole of it
abbrev pub invariant-loop-i : goal.invariant-loop-i
invariant-loop-i g l = (history : List Transaction) → g.V.KvView.stands l.view history → l.n ≤ length history → IsHistory history → IsSqlKept (take l.n history)
    → IsTableOf (take l.n history) l.table → IndexesAre (take l.n history) l.table l.indexes → (stood : List StoredRow) → RowsAre (take l.n history) l.table stood
    → IsGoing (take l.n history) l.fresh l.table l.indexes (map (row_given l.table l.insertion.columns) l.insertion.rows) l.i (map (row_given l.table l.insertion.columns) (drop l.i l.insertion.rows)) stood l.writes
