-- A SELECT after its rows are found.
use Rattle.std.specs.Prelude.{ℕ, List, map, drop, unwrap_or, Option}
use Rattle.im_sqltype.specs.declared.values.Value.{Value}
use Rattle.im_sqlparse.specs.declared.statements.Select.{Select}
use Rattle.im_sqlmodel.specs.Selects.{at_most, columns_shown}
use Rattle.im_sqlmodel.specs.declared.tables.Nameable.{Nameable}

-- without the first so many, and then at most so many
abbrev pub cut : {A : Type 0} → Option ℕ → Option ℕ → List A → List A
cut offset limit rows = at_most limit (drop (unwrap_or offset 0) rows)

-- of rows in their order, those that are kept, with the columns shown
abbrev pub shown_rows : List Nameable → Select → List (List Value) → List (List Value)
shown_rows scope s rows = map (columns_shown scope s.columns) (cut s.offset s.limit rows)
