-- CREATE TABLE and CREATE INDEX: their errors, and what they write.
use Rattle.std.specs.Prelude.{◌≡◌, ◌+◌, ℕ, not, List, [], ◌∷◌, ◌++◌, map, length, nat_eq, if◌then◌else◌, unwrap_or, position, find, bytes_eq, option_map, MatchOption, Option, Some, None, Result, Ok, Err}
use Rattle.std.specs.List.{list_any}
use Rattle.std.specs.Option.{option_or}
use Rattle.im_octet.specs.Fields.{field4}
use Rattle.im_model.specs.declared.transactions.Transaction.{Transaction}
use Rattle.im_draft.specs.Drafts.{deletion, no_attributes, entry_of}
use Rattle.im_draft.specs.declared.drafts.Draft.{Draft}
use Rattle.im_draft.specs.declared.preconditions.Pre.TheVariants.{Since}
use Rattle.im_tx.specs.Asked.{Asked}
use Rattle.im_sqltype.specs.declared.columns.ColumnType.{ColumnType}
use Rattle.im_sqltype.specs.declared.columns.ColumnType.TheVariants as types
use Rattle.im_sqlparse.specs.declared.statements.DeclaredType.{DeclaredType}
use Rattle.im_sqlparse.specs.declared.statements.DeclaredType.TheVariants as holds
use Rattle.im_sqlparse.specs.declared.statements.ColumnDefinition.{ColumnDefinition}
use Rattle.im_sqlparse.specs.declared.statements.CreateTable.{CreateTable}
use Rattle.im_sqlparse.specs.declared.statements.CreateIndex.{CreateIndex}
use Rattle.im_sqlmodel.specs.Options.{by_option}
use Rattle.im_sqlmodel.specs.Keys.{tables_key, table_key, index_key, mark_key}
use Rattle.im_sqlmodel.specs.Tables.{table_text, index_text, table_names}
use Rattle.im_sqlmodel.specs.Rows.{CountIs, TableIs, IndexesAre, RowsAre}
use Rattle.im_sqlmodel.specs.declared.answers.SqlError.{SqlError}
use Rattle.im_sqlmodel.specs.declared.answers.SqlError.TheVariants as error
use Rattle.im_sqlmodel.specs.declared.answers.SqlOut.{SqlOut}
use Rattle.im_sqlmodel.specs.declared.answers.SqlOut.TheVariants as out
use Rattle.im_sqlmodel.specs.declared.rows.StoredRow.{StoredRow}
use Rattle.im_sqlmodel.specs.declared.tables.Column.{Column}
use Rattle.im_sqlmodel.specs.declared.tables.SqlIndex.{SqlIndex}
use Rattle.im_sqlmodel.specs.declared.tables.Table.{Table}
use Rattle.im_sqlmodel.specs.declared.written.Written.{Written}

-- ---- what is placed

-- the entry that is asked for: of a deleted key with the attribute and an empty value
abbrev pub draft_written : Written → Draft
draft_written w = by_option w.value
    (deletion w.key)
    (λ value. record { attrs = no_attributes; key = w.key; value = value })

-- these entries, under the preconditions that none of these keys has a version behind transaction n
abbrev pub asked_since : ℕ → List Written → List (List ℕ) → Asked
asked_since n written keys = record { entries = map (λ w. entry_of (draft_written w)) written; pres = map (λ key. Since key n) keys }

-- ---- names

-- the first name that stands earlier too
abbrev pub twice_behind : List (List ℕ) → List (List ℕ) → Option (List ℕ)
twice_behind before [] = None
twice_behind before (name ∷ names) =
    if list_any (bytes_eq name) before then Some name else twice_behind (before ++ name ∷ []) names

abbrev pub twice_fault : List (List ℕ) → Option SqlError
twice_fault names = option_map error.Twice (twice_behind [] names)

-- the first name that is none of these columns
abbrev pub column_fault : List (List ℕ) → List (List ℕ) → Option SqlError
column_fault columns names = option_map error.NoColumn (find (λ name. not (list_any (bytes_eq name) columns)) names)

-- ---- CREATE TABLE

-- a column's type as it is written, and as values are judged by it
abbrev pub type_of : DeclaredType → ColumnType
type_of holds.Integer = types.Integer
type_of holds.Boolean = types.Boolean
type_of (holds.Varchar n) = types.Varchar n
type_of (holds.Blob n) = types.Blob n

abbrev pub column_number : List (List ℕ) → List ℕ → ℕ
column_number columns name = unwrap_or (position (bytes_eq name) columns) 0

abbrev pub names_in : List ColumnDefinition → List (List ℕ)
names_in definitions = map (λ d. d.name) definitions

abbrev pub column_of : ColumnDefinition → Column
column_of d = record { name = d.name; holds = type_of d.holds; not_null = d.not_null }

-- the table behind so many others
abbrev pub table_made : ℕ → CreateTable → Table
table_made count c = record {
  tid = count + 1;
  name = c.table;
  columns = map column_of c.columns;
  key = map (column_number (names_in c.columns)) c.key;
}

-- a name twice in the columns; in the key one that is no column, then one twice
abbrev pub create_fault : CreateTable → Option SqlError
create_fault c =
    option_or (twice_fault (names_in c.columns)) (option_or (column_fault (names_in c.columns) c.key) (twice_fault c.key))

abbrev pub table_written : ℕ → CreateTable → List Written
table_written count c =
    record { key = tables_key; value = Some (field4 (count + 1)) }
    ∷ record { key = table_key c.table; value = Some (table_text (table_made count c)) } ∷ []

abbrev pub CreateTableOf : List Transaction → CreateTable → Result SqlOut SqlError → Type 0
CreateTableOf history c answer = MatchOption (create_fault c)
    ((count : ℕ) × CountIs history count
    × (answer ≡ Ok (out.Write (asked_since (length history) (table_written count c) (tables_key ∷ table_key c.table ∷ [])))))
    (λ fault. answer ≡ Err fault)

-- It is judged after all transactions of the history. A table that is there comes before all else.
abbrev pub CreateTableIs : List Transaction → CreateTable → Result SqlOut SqlError → Type 0
CreateTableIs history c answer =
    (found : Option Table) × TableIs history c.table found
    × MatchOption found (CreateTableOf history c answer)
    (λ _. answer ≡ (if c.if_not_exists then Ok out.Nothing else Err (error.Exists c.table)))

-- ---- CREATE INDEX

-- the index behind so many others
abbrev pub index_made : ℕ → Table → CreateIndex → SqlIndex
index_made count t c = record { iid = count + 1; unique = c.unique; columns = map (column_number (table_names t)) c.columns }

abbrev pub index_written : Table → SqlIndex → List Written
index_written t i = record { key = index_key t.tid i.iid; value = Some (index_text i) } ∷ []

-- the answer where the table has so many indexes and these rows
abbrev pub index_answer : List Transaction → CreateIndex → Table → ℕ → List StoredRow → Result SqlOut SqlError
index_answer history c t count rows =
    if nat_eq (length rows) 0
    then Ok (out.Write (asked_since (length history) (index_written t (index_made count t c)) (index_key t.tid (count + 1) ∷ mark_key t.tid ∷ [])))
    else Err (error.HasRows c.table)

abbrev pub CreateIndexOf : List Transaction → CreateIndex → Table → Result SqlOut SqlError → Type 0
CreateIndexOf history c t answer = MatchOption (option_or (column_fault (table_names t) c.columns) (twice_fault c.columns))
    ((rows : List StoredRow) × RowsAre history t rows × ((indexes : List SqlIndex) × IndexesAre history t indexes
    × (answer ≡ index_answer history c t (length indexes) rows)))
    (λ fault. answer ≡ Err fault)

abbrev pub CreateIndexIs : List Transaction → CreateIndex → Result SqlOut SqlError → Type 0
CreateIndexIs history c answer =
    (found : Option Table) × TableIs history c.table found
    × MatchOption found (answer ≡ Err (error.NoTable c.table)) (λ t. CreateIndexOf history c t answer)
