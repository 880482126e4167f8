-- The row of a key, the rows under the front of a key, and what the keys of an index's entries begin with.
use Rattle.std.specs.Prelude.{◌≡◌, ◌++◌, ℕ, false, if◌then◌else◌, List, Option, Some, None}
use Rattle.std.specs.List.{AllZip}
use Rattle.im_model.specs.declared.transactions.Transaction.{Transaction}
use Rattle.im_versions.specs.Versions.{last_version, is_live, IsScan}
use Rattle.im_versions.specs.declared.versions.Version.{Version}
use Rattle.im_sqltype.specs.Kinds.{AreOfKinds}
use Rattle.im_sqltype.specs.Texts.{row_text}
use Rattle.im_sqltype.specs.declared.values.Value.{Value}
use Rattle.im_sqlmodel.specs.Keys.{rows_prefix, plain_prefix, unique_prefix}
use Rattle.im_sqlmodel.specs.Tables.{kinds_of}
use Rattle.im_sqlmodel.specs.Rows.{IsStoredRow, IsRowVersion, key_of}
use Rattle.im_sqlmodel.specs.declared.rows.StoredRow.{StoredRow}
use Rattle.im_sqlmodel.specs.declared.tables.SqlIndex.{SqlIndex}
use Rattle.im_sqlmodel.specs.declared.tables.Table.{Table}

-- the row that stands under a key of the table's rows, or none
abbrev pub RowAt : List Transaction → Table → List ℕ → Option StoredRow → Type 0
RowAt history t key None = is_live history key ≡ false
RowAt history t key (Some s) =
    (v : Version) × (last_version history key ≡ Some v) × (v.deleted ≡ false) × IsStoredRow t v s

-- the rows whose keys begin with a front, by rising key
abbrev pub RowsFrom : List Transaction → Table → List ℕ → List StoredRow → Type 0
RowsFrom history t front rows = (shown : List Version) × IsScan history front shown × AllZip (IsStoredRow t) shown rows

-- the front of a key of the table's rows
abbrev pub IsRowsFront : Table → List ℕ → Type 0
IsRowsFront t front = (rest : List ℕ) × (front ≡ rows_prefix t.tid ++ rest)

-- the key and the text are those of a row of the table
abbrev pub HasRowText : Table → List ℕ → List ℕ → Type 0
HasRowText t key text = (row : List Value) × AreOfKinds (kinds_of t) row × (key ≡ key_of t row) × (text ≡ row_text row)

-- each version that isn't a deletion is a row of the table
abbrev pub IsRowIfLive : Table → Version → Type 0
IsRowIfLive t v = v.deleted ≡ false → (row : List Value) × IsRowVersion t v row

-- what the keys of an index's entries begin with
abbrev pub entries_prefix : Table → SqlIndex → List ℕ
entries_prefix t i = if i.unique then unique_prefix t.tid i.iid else plain_prefix t.tid i.iid
