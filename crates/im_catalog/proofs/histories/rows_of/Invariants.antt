use Rattle.std.proofs.Common.{take}
use Rattle.std.specs.List.{AllZip}
use Rattle.im_sqlmodel.specs.Rows.{IsRevision}
use Rattle.im_catalog.specs.Numbered.{pairs_of}
use Rattle.im_catalog.proofs.histories.rows_of.Given as goal

-- the row of each so far
abbrev pub invariant-loop-one : goal.invariant-loop-one
invariant-loop-one l = AllZip (IsRevision l.table) (take l.one-index (pairs_of l.numbered)) l.rows.items
