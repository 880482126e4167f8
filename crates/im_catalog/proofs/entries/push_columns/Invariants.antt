use Rattle.std.proofs.Common.{◌≡◌, ◌++◌, take}
use Rattle.im_sqltype.specs.Texts.{row_text}
use Rattle.im_sqlmodel.specs.Rows.{columns_of}
use Rattle.im_catalog.proofs.entries.push_columns.Given as goal

-- the texts of the columns so far were written
abbrev pub invariant-loop-column : goal.invariant-loop-column
invariant-loop-column l = l.out ≡ l.initial.out ++ row_text (columns_of l.row (take l.column-index l.columns))
