-- SELECT over the rows of a table: filter, stable order, cut.
use Rattle.std.specs.Prelude.{◌≡◌, ◌≤◌, ◌<◌, ◌⊎◌, ◌-◌, min, ℕ, Bool, true, false, List, [], ◌∷◌, map, length, take, drop, filter, if◌then◌else◌, unwrap_or, MatchOption, Option, Some, None, Result, Ok, Err}
use Rattle.std.specs.Option.{option_or}
use Rattle.std.specs.Ordering.{ordering_then}
use Rattle.std.specs.declared.cmp.Ordering.{Ordering}
use Rattle.std.specs.declared.cmp.Ordering.TheVariants.{Equal}
use Rattle.im_model.specs.declared.transactions.Transaction.{Transaction}
use Rattle.im_sqltype.specs.Orders.{value_cmp}
use Rattle.im_sqltype.specs.declared.values.Value.{Value}
use Rattle.im_sqlparse.specs.declared.statements.OrderTerm.{OrderTerm}
use Rattle.im_sqlparse.specs.declared.statements.Period.{Period}
use Rattle.im_sqlparse.specs.declared.statements.Period.TheVariants as period
use Rattle.im_sqlparse.specs.declared.statements.Select.{Select}
use Rattle.im_sqlmodel.specs.Options.{first_found, reversed}
use Rattle.im_sqlmodel.specs.Sorts.{sorted}
use Rattle.im_sqlmodel.specs.Rows.{TableIs, RowsAre, HistoryIs}
use Rattle.im_sqlmodel.specs.Conditions.{scope_of, value_named, name_fault, filter_fault, meets}
use Rattle.im_sqlmodel.specs.declared.answers.SqlError.{SqlError}
use Rattle.im_sqlmodel.specs.declared.answers.SqlError.TheVariants as error
use Rattle.im_sqlmodel.specs.declared.answers.SqlOut.{SqlOut}
use Rattle.im_sqlmodel.specs.declared.answers.SqlOut.TheVariants as out
use Rattle.im_sqlmodel.specs.declared.rows.StoredRow.{StoredRow}
use Rattle.im_sqlmodel.specs.declared.tables.Nameable.{Nameable}
use Rattle.im_sqlmodel.specs.declared.tables.Table.{Table}

-- how many transactions it reads after, where a line counts n
abbrev pub number_read : ℕ → Period → ℕ
number_read n period.Now = n
number_read n (period.Before k) = k - 1
number_read n (period.Until k) = k

-- after how many the table is looked up: those, or n where they are more
abbrev pub number_named : ℕ → Period → ℕ
number_named n at = min (number_read n at) n

abbrev pub shown_fault : List Nameable → Option (List (List ℕ)) → Option SqlError
shown_fault scope None = None
shown_fault scope (Some names) = first_found (name_fault scope) names

-- from the left: the columns shown, the condition, the order
abbrev pub select_fault : List Nameable → Select → Option SqlError
select_fault scope s =
    option_or (shown_fault scope s.columns)
    (option_or (filter_fault scope s.filter) (first_found (λ t. name_fault scope t.column) s.order))

abbrev pub directed : Bool → Ordering → Ordering
directed descending o = if descending then reversed o else o

abbrev pub term_cmp : List Nameable → OrderTerm → List Value → List Value → Ordering
term_cmp scope t a b = directed t.descending (value_cmp (value_named scope a t.column) (value_named scope b t.column))

-- the first term in which two rows differ decides
abbrev pub terms_cmp : List Nameable → List OrderTerm → List Value → List Value → Ordering
terms_cmp scope [] a b = Equal
terms_cmp scope (t ∷ ts) a b = ordering_then (term_cmp scope t a b) (terms_cmp scope ts a b)

abbrev pub at_most : {A : Type 0} → Option ℕ → List A → List A
at_most None xs = xs
at_most (Some n) xs = take n xs

-- all columns of a row, or those of these names
abbrev pub columns_shown : List Nameable → Option (List (List ℕ)) → List Value → List Value
columns_shown scope None row = row
columns_shown scope (Some names) row = map (value_named scope row) names

-- The answer over rows that stand by rising primary key, and by rising number in a history: ties stay so. OFFSET comes before LIMIT.
abbrev pub selected : List Nameable → Select → List (List Value) → List (List Value)
selected scope s rows =
    map (columns_shown scope s.columns)
    (at_most s.limit (drop (unwrap_or s.offset 0) (sorted (terms_cmp scope s.order) (filter (meets scope s.filter) rows))))

-- the rows that are read
abbrev pub SourceIs : List Transaction → Table → Bool → List (List Value) → Type 0
SourceIs history t false rows = (stored : List StoredRow) × RowsAre history t stored × (rows ≡ map (λ s. s.row) stored)
SourceIs history t true rows = HistoryIs history t rows

-- the answer after so many transactions, of a table that is there
abbrev pub SelectAt : List Transaction → Select → Table → ℕ → Result SqlOut SqlError → Type 0
SelectAt history s t n answer =
    ((length history < n) × (answer ≡ Err (error.Beyond (length history))))
    ⊎ ((n ≤ length history) × ((rows : List (List Value)) × SourceIs (take n history) t s.history rows
    × (answer ≡ Ok (out.Rows (selected (scope_of t s.history) s rows)))))

abbrev pub SelectOf : List Transaction → Select → Table → Result SqlOut SqlError → Type 0
SelectOf history s t answer = MatchOption (select_fault (scope_of t s.history) s)
    (SelectAt history s t (number_read (length history) s.period) answer)
    (λ fault. answer ≡ Err fault)

-- The answer where the line counts these transactions. Errors in order: the table; columns and comparisons from the left; a number
-- above the line's.
abbrev pub SelectIs : List Transaction → Select → Result SqlOut SqlError → Type 0
SelectIs history s answer =
    (found : Option Table) × TableIs (take (number_named (length history) s.period) history) s.table found
    × MatchOption found (answer ≡ Err (error.NoTable s.table)) (λ t. SelectOf history s t answer)
