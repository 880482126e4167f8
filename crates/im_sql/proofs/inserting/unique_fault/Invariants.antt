use Rattle.std.proofs.Common.{◌≡◌, ◌≤◌, List, length, drop, take}
use Rattle.im_model.specs.History.{IsHistory}
use Rattle.im_model.specs.declared.transactions.Transaction.{Transaction}
use Rattle.im_sqlmodel.specs.Kept.{IsSqlKept, IsTableOf}
use Rattle.im_sqlmodel.specs.Rows.{IndexesAre, RowsAre}
use Rattle.im_sqlmodel.specs.Options.{first_found}
use Rattle.im_sqlmodel.specs.Writes.{unique_fault}
use Rattle.im_sqlmodel.specs.declared.rows.StoredRow.{StoredRow}
use Rattle.im_sql.specs.Working.{IsWorking}
use Rattle.im_sql.proofs.inserting.unique_fault.Given as goal

-- no other row has the entry of an index so far
abbrev pub invariant-loop-index : goal.invariant-loop-index
invariant-loop-index g l = (history : List Transaction) → g.V.KvView.stands l.view history → l.n ≤ length history → IsHistory history → IsSqlKept (take l.n history)
    → IsTableOf (take l.n history) l.table → IndexesAre (take l.n history) l.table l.indexes → (stood rows : List StoredRow) → RowsAre (take l.n history) l.table stood
    → IsWorking l.table l.indexes stood l.writes rows
    → first_found (unique_fault (take l.n history) l.table l.i l.row rows) (drop l.index-index l.indexes) ≡ first_found (unique_fault (take l.n history) l.table l.i l.row rows) l.indexes
