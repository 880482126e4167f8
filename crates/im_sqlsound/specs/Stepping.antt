-- What the keys that a transaction writes say, before it and behind it, for private clauses.
use Rattle.std.specs.Prelude.{◌≡◌, ◌⊎◌, ℕ, List, [], ◌∷◌, ◌++◌, map, flat_map, if◌then◌else◌, Option, Some, None, All, IsTrue}
use Rattle.std.specs.List.{AllZip, IsAmong}
use Rattle.im_model.specs.declared.transactions.Transaction.{Transaction}
use Rattle.im_versions.specs.Versions.{last_version, begins_with, IsScan}
use Rattle.im_versions.specs.declared.versions.Version.{Version}
use Rattle.im_sqltype.specs.Orders.{octets_cmp}
use Rattle.im_sqlmodel.specs.Keys.{table_prefix, rows_prefix}
use Rattle.im_sqlmodel.specs.Rows.{IndexesAre, IsStoredRow}
use Rattle.im_sqlmodel.specs.Sorts.{sorted}
use Rattle.im_sqlsound.specs.Sounding.{said_by, entries_of, IsTableVersion, IsMarked, IsMarkShown}
use Rattle.im_sqlsound.specs.declared.found.TableFound.{TableFound}

-- a last version that isn't a deletion
abbrev pub live_last : Option Version → List Version
live_last None = []
live_last (Some v) = if v.deleted then [] else v ∷ []

-- the live version of another's key, where that begins with a front
abbrev pub live_of : List Transaction → List ℕ → Version → List Version
live_of history front v = if begins_with front v.key then live_last (last_version history v.key) else []

-- those of the keys that these versions have
abbrev pub live_own : List Transaction → List ℕ → List Version → List Version
live_own history front own = flat_map (live_of history front) own

-- a table's indexes after one history, and those of its rows after another whose keys these versions have
pub record IsPart (catalogue history : List Transaction) (own : List Version) (f : TableFound) : Type 0 where
  pub indexes : IndexesAre catalogue f.table f.indexes
  pub rows : AllZip (IsStoredRow f.table) (live_own history (rows_prefix f.table.tid) own) f.rows

-- by the version that says the table
abbrev pub IsPartBy : List Transaction → List Transaction → List Version → Version → TableFound → Type 0
IsPartBy catalogue history own v f = IsTableVersion v f.table × IsPart catalogue history own f

-- all tables with those of their indexes and rows
abbrev pub AreParts : List Transaction → List Transaction → List Version → List TableFound → Type 0
AreParts catalogue history own fs = (said : List Version) × IsScan catalogue table_prefix said × AllZip (IsPartBy catalogue history own) said fs

-- the live entries whose keys these versions have, by rising key
abbrev pub own_entries : List Transaction → List Version → List Version
own_entries history own =
    sorted (λ a b. octets_cmp a.key b.key) (live_own history (0 ∷ 5 ∷ []) own ++ live_own history (0 ∷ 6 ∷ []) own)

-- they are those that these tables' rows give
abbrev pub AreOwnEntries : List Transaction → List Version → List TableFound → Type 0
AreOwnEntries history own fs = map said_by (own_entries history own) ≡ sorted (λ a b. octets_cmp a.key b.key) (flat_map entries_of fs)

-- the key is one of a mark, of an entry, or of a row of these tables
abbrev pub IsKnownKey : List TableFound → List ℕ → Type 0
IsKnownKey fs key =
    IsTrue (begins_with (0 ∷ 3 ∷ []) key) ⊎ IsTrue (begins_with (0 ∷ 5 ∷ []) key) ⊎ IsTrue (begins_with (0 ∷ 6 ∷ []) key)
    ⊎ ((f : TableFound) × IsAmong fs f × IsTrue (begins_with (rows_prefix f.table.tid) key))

-- the transaction that wrote each row of the table wrote its mark
abbrev pub AreMarked : List Version → TableFound → Type 0
AreMarked changes f = All (IsMarked changes f.table) f.rows

-- before a transaction that has these versions: its keys are of marks, rows and entries, and the entries are those of the rows
pub record StoodOf (history : List Transaction) (own : List Version) : Type 0 where
  pub tables : List TableFound
  pub parts : AreParts history history own tables
  pub known : All (λ v. IsKnownKey tables v.key) own
  pub entered : AreOwnEntries history own tables

-- behind it, where the catalogue is as it was: marks and rows are such, and again the entries are those of the rows
pub record StandsOf (catalogue history : List Transaction) (own changes : List Version) : Type 0 where
  pub tables : List TableFound
  pub parts : AreParts catalogue history own tables
  pub marks : All (IsMarkShown tables) (live_own history (0 ∷ 3 ∷ []) own)
  pub marked : All (AreMarked changes) tables
  pub entered : AreOwnEntries history own tables
