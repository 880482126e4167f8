-- The parts of the texts of tables and indexes, for private clauses.
use Rattle.std.specs.Prelude.{◌≡◌, ◌≤◌, ◌<◌, ◌^◌, ⊤, ℕ, Bool, List, [], ◌∷◌, length, if◌then◌else◌, All}
use Rattle.std.specs.List.{flat_map}
use Rattle.im_octet.specs.Fields.{field2}
use Rattle.im_sqltype.specs.declared.columns.ColumnType.{ColumnType}
use Rattle.im_sqlparse.specs.Formed.{IsName}
use Rattle.im_sqlmodel.specs.Tables.{IsTyped, type_code, limit_of, column_text, numbers_text, table_text, index_text}
use Rattle.im_sqlmodel.specs.declared.tables.Column.{Column}
use Rattle.im_sqlmodel.specs.declared.tables.SqlIndex.{SqlIndex}
use Rattle.im_sqlmodel.specs.declared.tables.Table.{Table}

-- either of two
abbrev pub IsFlag : Bool → Type 0
IsFlag flag = ⊤

abbrev pub flag_text : Bool → List ℕ
flag_text flag = (if flag then 1 else 0) ∷ []

-- a number of two octets
abbrev pub FitsTwo : ℕ → Type 0
FitsTwo n = n < 2 ^ 16

-- so few of these that their number has two octets too
abbrev pub AreColumnNumbers : List ℕ → Type 0
AreColumnNumbers numbers = (length numbers < 2 ^ 16) × All FitsTwo numbers

abbrev pub name_text : List ℕ → List ℕ
name_text name = length name ∷ name

-- a type and its n
abbrev pub held_text : ColumnType → List ℕ
held_text holds = type_code holds ∷ field2 (limit_of holds)

-- n of a column's type that sets one
abbrev pub MayNotLimit : ℕ → Type 0
MayNotLimit n = 1 ≤ n → n ≤ 1024 → ⊥

-- a code and an n say this type
pub record IsHeldBy (code n : ℕ) (holds : ColumnType) : Type 0 where
  pub is : IsTyped holds
  pub says_code : code ≡ type_code holds
  pub says_limit : n ≡ limit_of holds

-- they say none
pub record NoneIsHeldBy (code n : ℕ) : Type 0 where
  pub none : (holds : ColumnType) → IsHeldBy code n holds → ⊥

abbrev pub IsColumn : Column → Type 0
IsColumn c = IsName c.name × IsTyped c.holds

abbrev pub columns_text : List Column → List ℕ
columns_text columns = flat_map column_text columns

abbrev pub fields_text : List ℕ → List ℕ
fields_text numbers = flat_map field2 numbers

-- what a reader of tables finds, before it tests the whole
pub record IsReadTable (t : Table) : Type 0 where
  pub tid : t.tid < 2 ^ 32
  pub few : length t.columns < 2 ^ 16
  pub columns : All IsColumn t.columns
  pub key : AreColumnNumbers t.key

-- a number of four octets
abbrev pub FitsFour : ℕ → Type 0
FitsFour tid = tid < 2 ^ 32

-- no numbers have this text
pub record HasNoNumbers (text : List ℕ) : Type 0 where
  pub none : (numbers : List ℕ) → AreColumnNumbers numbers → text ≡ numbers_text numbers → ⊥

-- the text is that of such a table of this name
pub record HasParts (name text : List ℕ) (t : Table) : Type 0 where
  pub is : IsReadTable t
  pub named : t.name ≡ name
  pub says : text ≡ table_text t

-- no such table has this text
pub record HasNoParts (text : List ℕ) : Type 0 where
  pub none : (t : Table) → IsReadTable t → text ≡ table_text t → ⊥

-- the text is that of an index of this number, whatever its columns are
pub record HasIndexParts (iid : ℕ) (text : List ℕ) (i : SqlIndex) : Type 0 where
  pub columns : AreColumnNumbers i.columns
  pub numbered : i.iid ≡ iid
  pub says : text ≡ index_text i

-- no such index has this text
pub record HasNoIndexParts (text : List ℕ) : Type 0 where
  pub none : (i : SqlIndex) → AreColumnNumbers i.columns → text ≡ index_text i → ⊥
