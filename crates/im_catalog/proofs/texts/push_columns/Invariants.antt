use Rattle.std.proofs.Common.{◌≡◌, ◌++◌, take}
use Rattle.std.specs.List.{flat_map}
use Rattle.im_sqlmodel.specs.Tables.{column_text}
use Rattle.im_catalog.proofs.texts.push_columns.Given as goal

-- the texts of the columns so far were written
abbrev pub invariant-loop-column : goal.invariant-loop-column
invariant-loop-column l = l.out ≡ l.initial.out ++ flat_map column_text (take l.column-index l.columns)
