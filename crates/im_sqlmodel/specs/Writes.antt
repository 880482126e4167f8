-- INSERT, UPSERT and DELETE: rows taken in order, each judged against the table as the earlier ones leave it.
use Rattle.std.specs.Prelude.{◌≡◌, ◌+◌, ◌&&◌, ◌||◌, ℕ, Bool, true, false, not, List, [], ◌∷◌, map, length, filter, find, flat_map, position, nat_eq, nat_lt, nat_le, bytes_eq, if◌then◌else◌, option_map, MatchOption, Option, Some, None, Result, Ok, Err}
use Rattle.std.specs.List.{list_any}
use Rattle.std.specs.Option.{option_or}
use Rattle.im_model.specs.declared.transactions.Transaction.{Transaction}
use Rattle.im_versions.specs.Versions.{last_number, begins_with}
use Rattle.im_sqltype.specs.Orders.{octets_cmp}
use Rattle.im_sqltype.specs.Texts.{row_text}
use Rattle.im_sqltype.specs.declared.columns.ColumnType.{ColumnType}
use Rattle.im_sqltype.specs.declared.columns.ColumnType.TheVariants as types
use Rattle.im_sqltype.specs.declared.columns.Misfit.{Misfit}
use Rattle.im_sqltype.specs.declared.columns.Misfit.TheVariants as misfit
use Rattle.im_sqltype.specs.declared.values.Value.{Value}
use Rattle.im_sqltype.specs.declared.values.Value.TheVariants.{Null, Integer, Boolean, Varchar, Blob}
use Rattle.im_sqlparse.specs.declared.statements.Literal.{Literal}
use Rattle.im_sqlparse.specs.declared.statements.Insertion.{Insertion}
use Rattle.im_sqlparse.specs.declared.statements.Delete.{Delete}
use Rattle.im_sqlmodel.specs.Options.{by_option, by_ordering, first_found, ok_then}
use Rattle.im_sqlmodel.specs.Sorts.{put_sorted}
use Rattle.im_sqlmodel.specs.Keys.{index_key, mark_key, plain_key, unique_key}
use Rattle.im_sqlmodel.specs.Tables.{table_names}
use Rattle.im_sqlmodel.specs.Rows.{TableIs, IndexesAre, RowsAre, columns_of, key_of}
use Rattle.im_sqlmodel.specs.Conditions.{literal_value, cell_at, scope_of, filter_fault, meets}
use Rattle.im_sqlmodel.specs.Creations.{asked_since, column_fault, twice_fault}
use Rattle.im_sqlmodel.specs.declared.answers.SqlError.{SqlError}
use Rattle.im_sqlmodel.specs.declared.answers.SqlError.TheVariants as error
use Rattle.im_sqlmodel.specs.declared.answers.SqlOut.{SqlOut}
use Rattle.im_sqlmodel.specs.declared.answers.SqlOut.TheVariants as out
use Rattle.im_sqlmodel.specs.declared.rows.StoredRow.{StoredRow}
use Rattle.im_sqlmodel.specs.declared.tables.Column.{Column}
use Rattle.im_sqlmodel.specs.declared.tables.SqlIndex.{SqlIndex}
use Rattle.im_sqlmodel.specs.declared.tables.Table.{Table}
use Rattle.im_sqlmodel.specs.declared.written.Written.{Written}

-- ---- the rows of a statement

-- what a column is given: the value at its name's place, or NULL where its name isn't there
abbrev pub value_given : List (List ℕ) → List Value → List ℕ → Value
value_given names values name = cell_at values (position (bytes_eq name) names)

abbrev pub row_given : Table → List (List ℕ) → List Literal → List Value
row_given t names literals = map (λ c. value_given names (map literal_value literals) c.name) t.columns

-- the first row, from number i on, that has another number of values than these
abbrev pub count_fault : ℕ → ℕ → List (List Literal) → Option SqlError
count_fault i want [] = None
count_fault i want (row ∷ rows) =
    if nat_eq (length row) want then count_fault (i + 1) want rows else Some (error.Count i want (length row))

-- before the first row is judged
abbrev pub insertion_fault : Table → Insertion → Option SqlError
insertion_fault t s =
    option_or (column_fault (table_names t) s.columns)
    (option_or (twice_fault s.columns) (count_fault 0 (length s.columns) s.rows))

-- ---- the values of one row

-- why a column of this type can't hold a value; NULL fits
abbrev pub misfit_of : ColumnType → Value → Option Misfit
misfit_of type Null = None
misfit_of types.Integer (Integer n) = None
misfit_of types.Boolean (Boolean b) = None
misfit_of (types.Varchar n) (Varchar octets) = if nat_le (length octets) n then None else Some misfit.Long
misfit_of (types.Blob n) (Blob octets) = if nat_le (length octets) n then None else Some misfit.Long
misfit_of type value = Some misfit.Kind

abbrev pub is_in_key : Table → ℕ → Bool
is_in_key t at = list_any (nat_eq at) t.key

abbrev pub misfit_error : ℕ → List ℕ → Misfit → SqlError
misfit_error i name misfit.Kind = error.WrongType i name
misfit_error i name misfit.Long = error.TooLong i name

-- of column `at` of row i
abbrev pub cell_fault : Table → ℕ → ℕ → Column → Value → Option SqlError
cell_fault t i at c Null = if c.not_null || is_in_key t at then Some (error.NullGiven i c.name) else None
cell_fault t i at c value = option_map (misfit_error i c.name) (misfit_of c.holds value)

-- of the first column at fault from `at` on, in table order
abbrev pub cells_fault : Table → ℕ → ℕ → List Column → List Value → Option SqlError
cells_fault t i at (c ∷ cs) (value ∷ values) = option_or (cell_fault t i at c value) (cells_fault t i (at + 1) cs values)
cells_fault t i at cs values = None

-- ---- what a row is written as

abbrev pub row_written : Table → List Value → Written
row_written t row = record { key = key_of t row; value = Some (row_text row) }

-- an entry of an index; of a unique one its value is the primary key's text
abbrev pub entry_written : Table → List Value → SqlIndex → Written
entry_written t row i =
    if i.unique
    then record { key = unique_key t.tid i.iid (columns_of row i.columns); value = Some (row_text (columns_of row t.key)) }
    else record { key = plain_key t.tid i.iid (columns_of row i.columns) (columns_of row t.key); value = Some [] }

abbrev pub all_written : Table → List SqlIndex → List Value → List Written
all_written t indexes row = row_written t row ∷ map (entry_written t row) indexes

abbrev pub deleted : Written → Written
deleted w = record { key = w.key; value = None }

-- put at its key, by rising key, in the place of what was written there
abbrev pub put_written : Written → List Written → List Written
put_written w [] = w ∷ []
put_written w (x ∷ xs) = by_ordering (octets_cmp w.key x.key) (w ∷ x ∷ xs) (w ∷ xs) (x ∷ put_written w xs)

-- one after the other: what is put last counts
abbrev pub put_all : List Written → List Written → List Written
put_all [] written = written
put_all (w ∷ ws) written = put_all ws (put_written w written)

-- ---- the table while a statement goes on

pub record Work : Type 0 where
  -- its rows, by rising primary key
  pub rows : List StoredRow
  -- what is written so far, by rising key
  pub written : List Written

-- the row of a key
abbrev pub stored_at : Table → List StoredRow → List ℕ → Option StoredRow
stored_at t rows key = find (λ s. bytes_eq (key_of t s.row) key) rows

-- without the row of a key
abbrev pub rows_without : Table → List ℕ → List StoredRow → List StoredRow
rows_without t key rows = filter (λ s. not (bytes_eq (key_of t s.row) key)) rows

-- with this row, in the place of one of its key
abbrev pub rows_with : Table → StoredRow → List StoredRow → List StoredRow
rows_with t s rows = put_sorted (λ a b. octets_cmp (key_of t a.row) (key_of t b.row)) s (rows_without t (key_of t s.row) rows)

-- the entries that a row had, as deleted
abbrev pub dropped : Table → List SqlIndex → Option StoredRow → List Written
dropped t indexes None = []
dropped t indexes (Some s) = map (λ i. deleted (entry_written t s.row i)) indexes

-- The row is written: its key and all its entries, held before or not. Entries of the row before that no longer hold are deleted.
abbrev pub write_row : Table → List SqlIndex → List Value → Work → Work
write_row t indexes row work = record {
  rows = rows_with t (record { row = row; tx = 0 }) work.rows;
  written = put_all (all_written t indexes row) (put_all (dropped t indexes (stored_at t work.rows (key_of t row))) work.written);
}

-- ---- what else is wrong with a row

abbrev pub is_long : ℕ → Written → Bool
is_long most w = nat_lt most (length w.key)

-- the key of the row, or of one of its entries, has more than 1024 octets
abbrev pub key_fault : Table → List SqlIndex → ℕ → List Value → Option SqlError
key_fault t indexes i row = if list_any (is_long 1024) (all_written t indexes row) then Some (error.KeyLong i) else None

abbrev pub length_fault : ℕ → List Value → Option SqlError
length_fault i row = if nat_lt 4096 (length (row_text row)) then Some (error.RowLong i) else None

-- INSERT alone: a row of this key is there
abbrev pub duplicate_fault : Bool → Table → ℕ → List Value → List StoredRow → Option SqlError
duplicate_fault false t i row rows = None
duplicate_fault true t i row rows = option_map (λ s. error.Duplicate i s.tx) (stored_at t rows (key_of t row))

-- another row that has the same entry in a unique index
abbrev pub row_met : Table → SqlIndex → List Value → List StoredRow → Option StoredRow
row_met t index row rows =
    find (λ s. bytes_eq (entry_written t s.row index).key (entry_written t row index).key && not (bytes_eq (key_of t s.row) (key_of t row))) rows

-- 0 where a row of the statement has the entry, else the transaction that wrote the entry last
abbrev pub entry_number : List Transaction → Table → SqlIndex → StoredRow → ℕ
entry_number history t index s = if nat_eq s.tx 0 then 0 else last_number history (entry_written t s.row index).key

abbrev pub unique_fault : List Transaction → Table → ℕ → List Value → List StoredRow → SqlIndex → Option SqlError
unique_fault history t i row rows index =
    if index.unique then option_map (λ s. error.Unique i index.iid (entry_number history t index s)) (row_met t index row rows) else None

-- of row i, in this order: its values, by column; its keys; its text; INSERT's duplicate; the lowest unique index
abbrev pub row_fault : List Transaction → Bool → Table → List SqlIndex → ℕ → List Value → List StoredRow → Option SqlError
row_fault history fresh t indexes i row rows =
    option_or (cells_fault t i 0 t.columns row)
    (option_or (key_fault t indexes i row)
    (option_or (length_fault i row)
    (option_or (duplicate_fault fresh t i row rows) (first_found (unique_fault history t i row rows) indexes))))

-- rows from number i on, one wholly before the next
abbrev pub write_rows : List Transaction → Bool → Table → List SqlIndex → ℕ → List (List Value) → Work → Result Work SqlError
write_rows history fresh t indexes i [] work = Ok work
write_rows history fresh t indexes i (row ∷ rows) work = by_option (row_fault history fresh t indexes i row work.rows)
    (write_rows history fresh t indexes (i + 1) rows (write_row t indexes row work))
    (λ fault. Err fault)

-- ---- what is placed

-- with the mark of the table
abbrev pub marked : Table → List Written → List Written
marked t written = put_written (record { key = mark_key t.tid; value = Some [] }) written

-- a key of a row, or of a unique index
abbrev pub is_guarded : List ℕ → Bool
is_guarded key = begins_with (0 ∷ 4 ∷ []) key || begins_with (0 ∷ 6 ∷ []) key

-- the next free index of the table, each row's key, each unique key, written or deleted
abbrev pub guarded : Table → List SqlIndex → List Written → List (List ℕ)
guarded t indexes written = index_key t.tid (length indexes + 1) ∷ filter is_guarded (map (λ w. w.key) written)

abbrev pub most_entries : ℕ
most_entries = 1024

-- too many entries are told last
abbrev pub placed : ℕ → Table → List SqlIndex → List Written → Result SqlOut SqlError
placed n t indexes written =
    if nat_lt most_entries (length (marked t written)) then Err (error.TooMany (length (marked t written)))
    else Ok (out.Write (asked_since n (marked t written) (guarded t indexes written)))

-- `fresh` says that it is INSERT
abbrev pub inserted : List Transaction → Bool → Insertion → Table → List SqlIndex → List StoredRow → Result SqlOut SqlError
inserted history fresh s t indexes rows = by_option (insertion_fault t s)
    (ok_then (write_rows history fresh t indexes 0 (map (row_given t s.columns) s.rows) (record { rows = rows; written = [] }))
    (λ work. placed (length history) t indexes work.written))
    (λ fault. Err fault)

-- the rows that are meant
abbrev pub rows_met : Table → Delete → List StoredRow → List StoredRow
rows_met t s rows = filter (λ r. meets (scope_of t false) s.filter r.row) rows

-- the rows' keys and entries, as deleted
abbrev pub rows_dropped : Table → List SqlIndex → List StoredRow → List Written
rows_dropped t indexes rows = put_all (flat_map (λ r. map deleted (all_written t indexes r.row)) rows) []

abbrev pub erased : List Transaction → Delete → Table → List SqlIndex → List StoredRow → Result SqlOut SqlError
erased history s t indexes rows = by_option (filter_fault (scope_of t false) s.filter)
    (if nat_eq (length (rows_met t s rows)) 0 then Ok out.Nothing
    else placed (length history) t indexes (rows_dropped t indexes (rows_met t s rows)))
    (λ fault. Err fault)

-- the answer of a statement that writes rows, by its answer of a table that is there, the table's indexes and its rows
abbrev pub WriteIs : List Transaction → List ℕ → (Table → List SqlIndex → List StoredRow → Result SqlOut SqlError) → Result SqlOut SqlError → Type 0
WriteIs history table answered answer =
    (found : Option Table) × TableIs history table found
    × MatchOption found (answer ≡ Err (error.NoTable table))
    (λ t. (indexes : List SqlIndex) × IndexesAre history t indexes × ((rows : List StoredRow) × RowsAre history t rows × (answer ≡ answered t indexes rows)))
