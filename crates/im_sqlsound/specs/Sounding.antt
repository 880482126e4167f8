-- What is read off the live keys that begin with octet 00, for private clauses.
use Rattle.std.specs.Prelude.{◌≡◌, ◌≢◌, ◌≤◌, ◌<◌, ◌+◌, ◌^◌, ◌⊎◌, ℕ, List, [], ◌∷◌, ◌++◌, length, map, filter, flat_map, sum_by, slice_index_or, Some, All, AllPairs}
use Rattle.std.specs.List.{AllZip, IsAmong}
use Rattle.im_octet.specs.Fields.{field4}
use Rattle.im_model.specs.declared.transactions.Transaction.{Transaction}
use Rattle.im_versions.specs.Versions.{begins_with}
use Rattle.im_versions.specs.declared.versions.Version.{Version}
use Rattle.im_versions.specs.Changes.{AreChanges}
use Rattle.im_sqltype.specs.Orders.{octets_cmp}
use Rattle.im_sqlmodel.specs.Keys.{tables_key, table_key, index_prefix, mark_key, rows_prefix}
use Rattle.im_sqlmodel.specs.Sorts.{sorted}
use Rattle.im_sqlmodel.specs.Tables.{IsTable, table_text}
use Rattle.im_sqlmodel.specs.Rows.{IsIndexVersion, IsStoredRow}
use Rattle.im_sqlmodel.specs.Writes.{entry_written}
use Rattle.im_sqlmodel.specs.declared.rows.StoredRow.{StoredRow}
use Rattle.im_sqlmodel.specs.declared.tables.SqlIndex.{SqlIndex}
use Rattle.im_sqlmodel.specs.declared.tables.Table.{Table}
use Rattle.im_sqlmodel.specs.declared.written.Written.{Written}
use Rattle.im_sqlsound.specs.declared.found.TableFound.{TableFound}

-- the versions whose keys have this octet behind 00
abbrev pub kind_shown : ℕ → List Version → List Version
kind_shown octet shown = filter (λ v. begins_with (0 ∷ octet ∷ []) v.key) shown

-- this version is the table
abbrev pub IsTableVersion : Version → Table → Type 0
IsTableVersion v t = IsTable t × (v.key ≡ table_key t.name) × (v.value ≡ table_text t)

-- it says no table
abbrev pub SaysNoTable : Version → Type 0
SaysNoTable v = (t : Table) → IsTableVersion v t → ⊥

-- it says no index of the table
abbrev pub SaysNoIndex : Table → Version → Type 0
SaysNoIndex t v = (i : SqlIndex) → IsIndexVersion t v i → ⊥

-- no list says one of each of these versions
abbrev pub NoneAreSaid : {A : Type 0} → (Version → A → Type 0) → List Version → Type 0
NoneAreSaid {A} Says shown = (said : List A) → AllZip Says shown said → ⊥

-- the versions whose keys begin with a front
abbrev pub under : List ℕ → List Version → List Version
under front shown = filter (λ v. begins_with front v.key) shown

-- a table's indexes and its rows, as the live keys say them
pub record IsFound (shown : List Version) (f : TableFound) : Type 0 where
  pub table : IsTable f.table
  pub indexes : AllZip (IsIndexVersion f.table) (under (index_prefix f.table.tid) shown) f.indexes
  pub rows : AllZip (IsStoredRow f.table) (under (rows_prefix f.table.tid) shown) f.rows

-- a table with what hangs on it, by the version that says the table
abbrev pub IsFoundBy : List Version → Version → TableFound → Type 0
IsFoundBy shown v f = IsTableVersion v f.table × IsFound shown f

-- all tables, in the order of their keys
pub record AreFound (shown : List Version) (fs : List TableFound) : Type 0 where
  pub tables : AllZip (λ v f. IsTableVersion v f.table) (kind_shown 1 shown) fs
  pub each : All (IsFound shown) fs

-- there is no such list: the text of one isn't SQL's
abbrev pub NoneAreFound : List Version → Type 0
NoneAreFound shown = (fs : List TableFound) → AreFound shown fs → ⊥

-- the live keys say so many tables
abbrev pub IsCountShown : List Version → ℕ → Type 0
IsCountShown shown count =
    ((under tables_key shown ≡ []) × (count ≡ 0))
    ⊎ ((v : Version) × (under tables_key shown ≡ v ∷ []) × (v.key ≡ tables_key) × (count < 2 ^ 32) × (v.value ≡ field4 count))

-- the numbers of tables are from 1 to a count, each once
abbrev pub AreUpTo : ℕ → List TableFound → Type 0
AreUpTo count fs = All (λ f. (1 ≤ f.table.tid) × (f.table.tid ≤ count)) fs × AllPairs (λ a b. a.table.tid ≢ b.table.tid) fs

-- they are 1 to the one under 00 00
abbrev pub AreNumbered : List Version → List TableFound → Type 0
AreNumbered shown fs = IsCountShown shown (length fs) × AreUpTo (length fs) fs

-- those of a table's indexes run from 1 without gaps
abbrev pub AreGapless : List SqlIndex → Type 0
AreGapless indexes = (k : ℕ) (d : SqlIndex) → k < length indexes → (slice_index_or indexes k d).iid ≡ k + 1

-- the transaction that wrote the row wrote the mark of its table, or deleted it
abbrev pub IsMarked : List Version → Table → StoredRow → Type 0
IsMarked changes t s = (v : Version) × IsAmong changes v × (v.key ≡ mark_key t.tid) × (v.tx ≡ s.tx)

-- a table's indexes run from 1, and its rows are marked
abbrev pub IsSoundAlone : List Version → TableFound → Type 0
IsSoundAlone changes f = AreGapless f.indexes × All (IsMarked changes f.table) f.rows

-- live marks are empty, and of tables that are there
abbrev pub IsMarkShown : List TableFound → Version → Type 0
IsMarkShown fs v = (f : TableFound) × IsAmong fs f × (v.key ≡ mark_key f.table.tid) × (v.value ≡ [])

abbrev pub said_by : Version → Written
said_by v = record { key = v.key; value = Some v.value }

-- the entries that a table's rows give
abbrev pub entries_of : TableFound → List Written
entries_of f = flat_map (λ (s : StoredRow). map (entry_written f.table s.row) f.indexes) f.rows

-- the entries that stand are those that rows give, with their values
abbrev pub AreEntered : List Version → List TableFound → Type 0
AreEntered shown fs =
    map said_by (kind_shown 5 shown ++ kind_shown 6 shown) ≡ sorted (λ a b. octets_cmp a.key b.key) (flat_map entries_of fs)

-- no key stands beside those of the catalogue, the rows, the marks and the entries
abbrev pub IsAll : List Version → List TableFound → Type 0
IsAll shown fs =
    length shown ≡ length (under tables_key shown) + length fs + sum_by (λ f. length f.indexes) fs + length (kind_shown 3 shown)
    + sum_by (λ f. length f.rows) fs + length (kind_shown 5 shown) + length (kind_shown 6 shown)

-- what was live of tables and indexes stands as it stood
abbrev pub AreSettled : List Version → List Version → Type 0
AreSettled before shown = All (IsAmong shown) (kind_shown 1 before) × All (IsAmong shown) (kind_shown 2 before)

-- all keys hang together, by the tables that they say
pub record Hang (shown changes : List Version) (fs : List TableFound) : Type 0 where
  pub numbered : AreNumbered shown fs
  pub each : All (IsSoundAlone changes) fs
  pub marks : All (IsMarkShown fs) (kind_shown 3 shown)
  pub entered : AreEntered shown fs
  pub all : IsAll shown fs

-- these are the versions of the keys that begin with 00, by rising number of their transactions
abbrev pub AreByNumber : List Transaction → List Version → Type 0
AreByNumber history changes = AreChanges history (0 ∷ []) changes × AllPairs (λ a b. a.tx ≤ b.tx) changes
