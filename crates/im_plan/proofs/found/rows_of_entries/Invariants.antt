use Rattle.std.proofs.Common.{◌≤◌, List, length, take, Some}
use Rattle.std.specs.List.{AllZip}
use Rattle.im_model.specs.declared.transactions.Transaction.{Transaction}
use Rattle.im_sqlmodel.specs.Kept.{IsSqlSound, IsSqlIndexOf}
use Rattle.im_catalog.specs.Rows.{RowAt}
use Rattle.im_plan.proofs.found.rows_of_entries.Given as goal

-- the row under each key so far
abbrev pub invariant-loop-key : goal.invariant-loop-key
invariant-loop-key g l =
    (history : List Transaction) → g.V.KvView.stands l.view history → l.n ≤ length history → IsSqlSound (take l.n history) → IsSqlIndexOf (take l.n history) l.table l.index
    → AllZip (λ key s. RowAt (take l.n history) l.table key.items (Some s)) (take l.key-index l.key-items) l.found.items
