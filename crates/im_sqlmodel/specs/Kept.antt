-- When the keys that begin with octet 00 are what SQL reads and writes, and what a store keeps.
use Rattle.std.specs.Prelude.{◌≡◌, ◌≤◌, ◌<◌, ◌^◌, ◌⊎◌, ◌||◌, ℕ, true, false, List, [], ◌∷◌, length, take, Some}
use Rattle.std.specs.List.{IsAmong}
use Rattle.im_octet.specs.Fields.{field4}
use Rattle.im_model.specs.declared.transactions.Transaction.{Transaction}
use Rattle.im_versions.specs.Versions.{last_version, last_number, versions_of, begins_with}
use Rattle.im_versions.specs.declared.versions.Version.{Version}
use Rattle.im_sqltype.specs.Kinds.{AreOfKinds}
use Rattle.im_sqltype.specs.Texts.{row_text}
use Rattle.im_sqltype.specs.declared.values.Value.{Value}
use Rattle.im_sqlmodel.specs.Keys.{tables_key, table_prefix, table_key, indexes_prefix, index_key, mark_key}
use Rattle.im_sqlmodel.specs.Tables.{IsTable, IsTableIndex, table_text, index_text, kinds_of}
use Rattle.im_sqlmodel.specs.Rows.{IsLiveAs, CountIs, key_of}
use Rattle.im_sqlmodel.specs.Writes.{entry_written}
use Rattle.im_sqlmodel.specs.declared.tables.Table.{Table}
use Rattle.im_sqlmodel.specs.declared.tables.SqlIndex.{SqlIndex}

abbrev pub IsTableOf : List Transaction → Table → Type 0
IsTableOf history t = IsTable t × IsLiveAs history (table_key t.name) (table_text t)

abbrev pub IsSqlIndexOf : List Transaction → Table → SqlIndex → Type 0
IsSqlIndexOf history t i = IsTableOf history t × IsTableIndex t i × IsLiveAs history (index_key t.tid i.iid) (index_text i)

abbrev pub IsRowOf : List Transaction → Table → List Value → Type 0
IsRowOf history t row = IsTableOf history t × AreOfKinds (kinds_of t) row × IsLiveAs history (key_of t row) (row_text row)

-- ---- what a live key that begins with 00, and its value, may be

abbrev pub IsCountText : List ℕ → List ℕ → Type 0
IsCountText key value = (count : ℕ) × (count < 2 ^ 32) × (key ≡ tables_key) × (value ≡ field4 count)

abbrev pub IsTableText : List ℕ → List ℕ → Type 0
IsTableText key value = (t : Table) × IsTable t × (key ≡ table_key t.name) × (value ≡ table_text t)

abbrev pub IsIndexText : List Transaction → List ℕ → List ℕ → Type 0
IsIndexText history key value =
    (t : Table) × (i : SqlIndex) × IsTableOf history t × IsTableIndex t i × (key ≡ index_key t.tid i.iid) × (value ≡ index_text i)

abbrev pub IsMarkText : List Transaction → List ℕ → List ℕ → Type 0
IsMarkText history key value = (t : Table) × IsTableOf history t × (key ≡ mark_key t.tid) × (value ≡ [])

abbrev pub IsRowText : List Transaction → List ℕ → List ℕ → Type 0
IsRowText history key value =
    (t : Table) × (row : List Value) × IsTableOf history t × AreOfKinds (kinds_of t) row × (key ≡ key_of t row) × (value ≡ row_text row)

-- of an index, whether unique or not: one that a live row gives
abbrev pub IsEntryText : List Transaction → List ℕ → List ℕ → Type 0
IsEntryText history key value =
    (t : Table) × (i : SqlIndex) × (row : List Value) × IsSqlIndexOf history t i × IsRowOf history t row
    × (key ≡ (entry_written t row i).key) × (Some value ≡ (entry_written t row i).value)

abbrev pub IsText : List Transaction → List ℕ → List ℕ → Type 0
IsText history key value =
    IsCountText key value ⊎ IsTableText key value ⊎ IsIndexText history key value ⊎ IsMarkText history key value
    ⊎ IsRowText history key value ⊎ IsEntryText history key value

-- ---- after all transactions of a history the keys are SQL's

pub record IsSqlSound (history : List Transaction) : Type 0 where
  pub texts : (rest value : List ℕ) → IsLiveAs history (0 ∷ rest) value → IsText history (0 ∷ rest) value
  -- the numbers of tables are 1 to the one under 00 00, each once
  pub count : ℕ
  pub counted : CountIs history count
  pub numbered : (t : Table) → IsTableOf history t → (1 ≤ t.tid) × (t.tid ≤ count)
  pub filled : (tid : ℕ) → 1 ≤ tid → tid ≤ count → (t : Table) × IsTableOf history t × (t.tid ≡ tid)
  pub once : (t u : Table) → IsTableOf history t → IsTableOf history u → t.tid ≡ u.tid → t ≡ u
  -- the numbers of a table's indexes run from 1 without gaps
  pub gapless : (t : Table) (i : SqlIndex) (iid : ℕ) → IsSqlIndexOf history t i → 1 ≤ iid → iid ≤ i.iid
      → (j : SqlIndex) × IsSqlIndexOf history t j × (j.iid ≡ iid)
  -- the transaction of a row's last version has a version of the table's mark, be it a deletion
  pub marks : (t : Table) (row : List Value) → IsRowOf history t row
      → (v : Version) × IsAmong (versions_of history (mark_key t.tid)) v × (v.tx ≡ last_number history (key_of t row))
  -- each entry that a live row gives stands, with its value; so two rows never give one key of a unique index
  pub entries : (t : Table) (i : SqlIndex) (row : List Value) (value : List ℕ) → IsSqlIndexOf history t i → IsRowOf history t row
      → (entry_written t row i).value ≡ Some value → IsLiveAs history (entry_written t row i).key value
  -- the key of a table or an index that was live once has that last version still
  pub settled : (n : ℕ) (key : List ℕ) (v : Version) → (begins_with table_prefix key || begins_with indexes_prefix key) ≡ true
      → last_version (take n history) key ≡ Some v → v.deleted ≡ false → last_version history key ≡ Some v

-- after each transaction
abbrev pub IsSqlKept : List Transaction → Type 0
IsSqlKept history = (n : ℕ) → n ≤ length history → IsSqlSound (take n history)

-- the first transaction after which they aren't SQL's
pub record IsFirstUnsound (history : List Transaction) (tx : ℕ) : Type 0 where
  pub some : 1 ≤ tx
  pub within : tx ≤ length history
  pub before : (n : ℕ) → n < tx → IsSqlSound (take n history)
  pub unsound : IsSqlSound (take tx history) → ⊥

-- The law of a store that found so many of its transactions as it was opened.
abbrev pub SqlKept : ℕ → List Transaction → Type 0
SqlKept found history = IsSqlKept (take found history) → IsSqlKept history
