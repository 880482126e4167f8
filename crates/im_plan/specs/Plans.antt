-- The way to the rows that a condition means, and the rows that it reaches.
use Rattle.std.specs.Prelude.{◌≡◌, ◌≢◌, ◌≤◌, ◌<◌, ⊤, ℕ, Bool, false, List, [], ◌++◌, length, take, map, bytes_eq, slice_index_or, Some, All}
use Rattle.im_versions.specs.Versions.{begins_with}
use Rattle.im_versions.specs.declared.versions.Version.{Version}
use Rattle.im_sqltype.specs.Kinds.{AreOfKinds, kind_of}
use Rattle.im_sqltype.specs.Texts.{row_text}
use Rattle.im_sqltype.specs.declared.kinds.ValueKind.{ValueKind}
use Rattle.im_sqltype.specs.declared.values.Value.{Value}
use Rattle.im_sqlparse.specs.declared.statements.Condition.{Condition}
use Rattle.im_sqlmodel.specs.Keys.{rows_prefix, row_key}
use Rattle.im_sqlmodel.specs.Tables.{kinds_of}
use Rattle.im_sqlmodel.specs.Rows.{key_of}
use Rattle.im_sqlmodel.specs.Writes.{entry_written}
use Rattle.im_sqlmodel.specs.declared.tables.SqlIndex.{SqlIndex}
use Rattle.im_sqlmodel.specs.declared.tables.Table.{Table}
use Rattle.im_catalog.specs.Rows.{entries_prefix}
use Rattle.im_plan.specs.Bounds.{no_table_column, leading}
use Rattle.im_plan.specs.declared.ways.Way.{Way}
use Rattle.im_plan.specs.declared.ways.Way.TheVariants as way

-- stands where there is none
abbrev pub no_index : SqlIndex
no_index = record { iid = 0; unique = false; columns = [] }

abbrev pub index_at : List SqlIndex → ℕ → SqlIndex
index_at indexes at = slice_index_or indexes at no_index

-- what it looks under is what these conditions say of its columns
abbrev pub IsWay : Table → List SqlIndex → List Condition → Way → Type 0
IsWay t indexes cs (way.Row key) = (length (leading cs t t.key) ≡ length t.key) × (key ≡ row_key t.tid (leading cs t t.key))
IsWay t indexes cs (way.Rows front) = front ≡ rows_prefix t.tid ++ row_text (leading cs t t.key)
IsWay t indexes cs (way.Entries at front) =
    (at < length indexes) × (front ≡ entries_prefix t (index_at indexes at) ++ row_text (leading cs t (index_at indexes at).columns))

-- neither the primary key nor an index has more than so many leading columns bound
abbrev pub IsMost : Table → List SqlIndex → List Condition → ℕ → Type 0
IsMost t indexes cs most = (length (leading cs t t.key) ≤ most) × All (λ i. length (leading cs t i.columns) ≤ most) indexes

-- no other way has more leading columns bound, unless this one leads to one row
abbrev pub IsBest : Table → List SqlIndex → List Condition → Way → Type 0
IsBest t indexes cs (way.Row key) = ⊤
IsBest t indexes cs (way.Rows front) = IsMost t indexes cs (length (leading cs t t.key))
IsBest t indexes cs (way.Entries at front) = IsMost t indexes cs (length (leading cs t (index_at indexes at).columns))

-- One row is asked for where the whole primary key is bound. Of ways with as many leading columns bound the primary key comes first, and then
-- the index of the lowest number.
abbrev pub IsFirst : Table → List SqlIndex → List Condition → Way → Type 0
IsFirst t indexes cs (way.Row key) = ⊤
IsFirst t indexes cs (way.Rows front) = length (leading cs t t.key) ≢ length t.key
IsFirst t indexes cs (way.Entries at front) =
    (length (leading cs t t.key) ≢ length t.key) × (length (leading cs t t.key) < length (leading cs t (index_at indexes at).columns))
    × All (λ i. length (leading cs t i.columns) < length (leading cs t (index_at indexes at).columns)) (take at indexes)

-- the row is one that the way leads to
abbrev pub is_reached : Table → List SqlIndex → Way → List Value → Bool
is_reached t indexes (way.Row key) row = bytes_eq (key_of t row) key
is_reached t indexes (way.Rows front) row = begins_with front (key_of t row)
is_reached t indexes (way.Entries at front) row = begins_with front (entry_written t row (index_at indexes at)).key

-- the version is the entry of a row
abbrev pub IsEntryOfRow : Table → SqlIndex → Version → List Value → Type 0
IsEntryOfRow t i v row = AreOfKinds (kinds_of t) row × (v.key ≡ (entry_written t row i).key) × (Some v.value ≡ (entry_written t row i).value)

abbrev pub HasEntryText : Table → SqlIndex → Version → Type 0
HasEntryText t i v = (row : List Value) × IsEntryOfRow t i v row

-- the kinds of some columns of a table, by their numbers
abbrev pub kinds_at : Table → List ℕ → List ValueKind
kinds_at t numbers = map (λ n. kind_of (slice_index_or t.columns n no_table_column).holds) numbers

-- those of an index's columns, and then of the primary key's: of what stands in the key of an entry that isn't unique
abbrev pub entry_kinds : Table → SqlIndex → List ValueKind
entry_kinds t i = kinds_at t i.columns ++ kinds_at t t.key

-- the key of the row that has an entry
abbrev pub IsKeyOfEntry : Table → SqlIndex → Version → List ℕ → Type 0
IsKeyOfEntry t i v key = (row : List Value) → IsEntryOfRow t i v row → key ≡ key_of t row

-- the key of an entry: ten octets, and then the texts of the index's columns and of the primary key's
abbrev pub HasPlainKey : SqlIndex → List ValueKind → List ℕ → Type 0
HasPlainKey i kinds key =
    (front : List ℕ) × (columns : List Value) × (primary : List Value) × (length front ≡ 10) × (length columns ≡ length i.columns)
    × AreOfKinds kinds (columns ++ primary) × (key ≡ front ++ row_text (columns ++ primary))

-- the text of the primary key in it
abbrev pub IsKeyBehind : SqlIndex → List ValueKind → List ℕ → List ℕ → Type 0
IsKeyBehind i kinds key text =
    (front : List ℕ) (columns primary : List Value) → length front ≡ 10 → length columns ≡ length i.columns
    → AreOfKinds kinds (columns ++ primary) → key ≡ front ++ row_text (columns ++ primary) → text ≡ row_text primary
