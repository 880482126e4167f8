-- The catalogue and the rows after all transactions of a history, and the history of rows: filters over its versions. No key of an
-- index's entries is read.
use Rattle.std.specs.Prelude.{◌≡◌, ◌<◌, ◌^◌, ◌⊎◌, ◌+◌, ℕ, false, not, List, [], ◌∷◌, ◌++◌, map, filter, slice_index_or, pos, Option, Some, None}
use Rattle.std.specs.List.{count_by, AllZip}
use Rattle.im_octet.specs.Fields.{field4}
use Rattle.im_model.specs.declared.transactions.Transaction.{Transaction}
use Rattle.im_versions.specs.Versions.{all_versions, last_version, is_live, begins_with, is_of, IsScan}
use Rattle.im_versions.specs.declared.versions.Version.{Version}
use Rattle.im_sqltype.specs.Kinds.{AreOfKinds}
use Rattle.im_sqltype.specs.Orders.{octets_cmp}
use Rattle.im_sqltype.specs.Texts.{row_text}
use Rattle.im_sqltype.specs.declared.values.Value.{Value}
use Rattle.im_sqltype.specs.declared.values.Value.TheVariants.{Null, Integer}
use Rattle.im_sqlmodel.specs.Keys.{tables_key, table_key, index_prefix, index_key, rows_prefix, row_key}
use Rattle.im_sqlmodel.specs.Sorts.{sorted}
use Rattle.im_sqlmodel.specs.Tables.{IsTable, IsTableIndex, table_text, index_text, kinds_of}
use Rattle.im_sqlmodel.specs.declared.rows.StoredRow.{StoredRow}
use Rattle.im_sqlmodel.specs.declared.tables.Table.{Table}
use Rattle.im_sqlmodel.specs.declared.tables.SqlIndex.{SqlIndex}

-- the key is live, with this value
abbrev pub IsLiveAs : List Transaction → List ℕ → List ℕ → Type 0
IsLiveAs history key value =
    (v : Version) × (last_version history key ≡ Some v) × (v.deleted ≡ false) × (v.value ≡ value)

-- ---- the catalogue

-- so many tables there are: the number under 00 00, or 0 where that isn't live
abbrev pub CountIs : List Transaction → ℕ → Type 0
CountIs history count =
    ((is_live history tables_key ≡ false) × (count ≡ 0)) ⊎ ((count < 2 ^ 32) × IsLiveAs history tables_key (field4 count))

-- the table of a name, or none
abbrev pub TableIs : List Transaction → List ℕ → Option Table → Type 0
TableIs history name None = is_live history (table_key name) ≡ false
TableIs history name (Some t) = IsTable t × (t.name ≡ name) × IsLiveAs history (table_key name) (table_text t)

-- this version is an index of the table
abbrev pub IsIndexVersion : Table → Version → SqlIndex → Type 0
IsIndexVersion t v i = IsTableIndex t i × (v.key ≡ index_key t.tid i.iid) × (v.value ≡ index_text i)

-- the indexes of a table, by rising number
abbrev pub IndexesAre : List Transaction → Table → List SqlIndex → Type 0
IndexesAre history t indexes =
    (shown : List Version) × IsScan history (index_prefix t.tid) shown × AllZip (IsIndexVersion t) shown indexes

-- ---- rows

-- some columns of a row, by their numbers
abbrev pub columns_of : List Value → List ℕ → List Value
columns_of row numbers = map (λ n. slice_index_or row n Null) numbers

abbrev pub key_of : Table → List Value → List ℕ
key_of t row = row_key t.tid (columns_of row t.key)

-- this version is a row of the table
abbrev pub IsRowVersion : Table → Version → List Value → Type 0
IsRowVersion t v row = AreOfKinds (kinds_of t) row × (v.key ≡ key_of t row) × (v.value ≡ row_text row)

abbrev pub IsStoredRow : Table → Version → StoredRow → Type 0
IsStoredRow t v s = IsRowVersion t v s.row × (s.tx ≡ v.tx)

-- the rows of a table, by rising primary key
abbrev pub RowsAre : List Transaction → Table → List StoredRow → Type 0
RowsAre history t rows =
    (shown : List Version) × IsScan history (rows_prefix t.tid) shown × AllZip (IsStoredRow t) shown rows

-- ---- the history of rows

-- each version with its number among those of its key, from 1, where `before` stood in front
abbrev pub numbered : List Version → List Version → List (ℕ × Version)
numbered before [] = []
numbered before (v ∷ vs) = (count_by (is_of v.key) before + 1, v) ∷ numbered (before ++ v ∷ []) vs

-- the versions of a table's rows
abbrev pub row_versions : List Transaction → Table → List Version
row_versions history t = filter (λ v. begins_with (rows_prefix t.tid) v.key) (all_versions history)

-- These numbered, without the deletions, by rising primary key and number: the sort is stable, so versions of a key stay oldest first.
abbrev pub revisions : List Transaction → Table → List (ℕ × Version)
revisions history t =
    sorted (λ a b. octets_cmp a.1.key b.1.key) (filter (λ p. not p.1.deleted) (numbered [] (row_versions history t)))

-- this is a row of a history: its columns, and its number, which is `_rev`
abbrev pub IsRevision : Table → ℕ × Version → List Value → Type 0
IsRevision t p row = (values : List Value) × IsRowVersion t p.1 values × (row ≡ values ++ Integer (pos p.0) ∷ [])

abbrev pub HistoryIs : List Transaction → Table → List (List Value) → Type 0
HistoryIs history t rows = AllZip (IsRevision t) (revisions history t) rows
