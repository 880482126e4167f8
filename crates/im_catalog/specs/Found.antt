-- What a view finds under the catalogue's keys, for private clauses.
use Rattle.std.specs.Prelude.{◌≡◌, ◌<◌, ◌^◌, ◌⊎◌, ℕ, true, false, List, Option, Some, None}
use Rattle.im_octet.specs.Fields.{field4}
use Rattle.im_versions.specs.declared.versions.Version.{Version}
use Rattle.im_sqlmodel.specs.Keys.{index_key}
use Rattle.im_sqlmodel.specs.Tables.{IsTable, IsTableIndex, table_text, index_text}
use Rattle.im_sqlmodel.specs.declared.tables.SqlIndex.{SqlIndex}
use Rattle.im_sqlmodel.specs.declared.tables.Table.{Table}

-- it is the text of a number of tables
abbrev pub HasCountText : List ℕ → Type 0
HasCountText text = (count : ℕ) × (count < 2 ^ 32) × (text ≡ field4 count)

-- the number that a version says: 0 where it is a deletion
abbrev pub SaysCount : Version → ℕ → Type 0
SaysCount v count = ((v.deleted ≡ true) × (count ≡ 0)) ⊎ ((v.deleted ≡ false) × (count < 2 ^ 32) × (v.value ≡ field4 count))

-- it is the text of a table of this name
abbrev pub HasTableText : List ℕ → List ℕ → Type 0
HasTableText name text = (t : Table) × IsTable t × (t.name ≡ name) × (text ≡ table_text t)

-- the table that a version says: none where it is a deletion
abbrev pub SaysTable : List ℕ → Version → Option Table → Type 0
SaysTable name v None = v.deleted ≡ true
SaysTable name v (Some t) = (v.deleted ≡ false) × IsTable t × (t.name ≡ name) × (v.value ≡ table_text t)

-- the version is an index of the table
abbrev pub HasIndexText : Table → Version → Type 0
HasIndexText t v = (i : SqlIndex) × IsTableIndex t i × (v.key ≡ index_key t.tid i.iid) × (v.value ≡ index_text i)
