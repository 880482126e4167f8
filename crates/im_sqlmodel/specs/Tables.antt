-- Tables and indexes, and their texts.
use Rattle.std.specs.Prelude.{◌≢◌, ◌≤◌, ◌<◌, ◌^◌, ⊤, ℕ, List, [], ◌∷◌, ◌++◌, length, map, if◌then◌else◌, All, AllPairs}
use Rattle.std.specs.List.{flat_map}
use Rattle.im_octet.specs.Fields.{field2, field4}
use Rattle.im_sqltype.specs.Kinds.{kind_of}
use Rattle.im_sqltype.specs.declared.columns.ColumnType.{ColumnType}
use Rattle.im_sqltype.specs.declared.columns.ColumnType.TheVariants as types
use Rattle.im_sqltype.specs.declared.kinds.ValueKind.{ValueKind}
use Rattle.im_sqlparse.specs.Formed.{IsName}
use Rattle.im_sqlmodel.specs.declared.tables.Column.{Column}
use Rattle.im_sqlmodel.specs.declared.tables.Table.{Table}
use Rattle.im_sqlmodel.specs.declared.tables.SqlIndex.{SqlIndex}

-- ---- what they may be

abbrev pub IsTyped : ColumnType → Type 0
IsTyped (types.Varchar n) = (1 ≤ n) × (n ≤ 1024)
IsTyped (types.Blob n) = (1 ≤ n) × (n ≤ 1024)
IsTyped other = ⊤

-- numbers of some of so many columns, each once
pub record AreColumns (count : ℕ) (numbers : List ℕ) : Type 0 where
  pub some : 1 ≤ length numbers
  pub each : All (λ n. n < count) numbers
  pub distinct : AllPairs (λ a b. a ≢ b) numbers

pub record IsTable (t : Table) : Type 0 where
  pub tid : (1 ≤ t.tid) × (t.tid < 2 ^ 32)
  pub name : IsName t.name
  pub some : 1 ≤ length t.columns
  pub few : length t.columns ≤ 64
  pub columns : All (λ c. IsName c.name × IsTyped c.holds) t.columns
  pub distinct : AllPairs (λ a b. a.name ≢ b.name) t.columns
  pub key : AreColumns (length t.columns) t.key

-- of this table
pub record IsTableIndex (t : Table) (i : SqlIndex) : Type 0 where
  pub iid : (1 ≤ i.iid) × (i.iid < 2 ^ 32)
  pub columns : AreColumns (length t.columns) i.columns

-- ---- their texts

abbrev pub type_code : ColumnType → ℕ
type_code types.Integer = 1
type_code types.Boolean = 2
type_code (types.Varchar n) = 3
type_code (types.Blob n) = 4

abbrev pub limit_of : ColumnType → ℕ
limit_of (types.Varchar n) = n
limit_of (types.Blob n) = n
limit_of other = 0

-- name length 1, name, type 1, n 2, NOT NULL 1
abbrev pub column_text : Column → List ℕ
column_text c =
    length c.name ∷ c.name ++ type_code c.holds ∷ field2 (limit_of c.holds) ++ (if c.not_null then 1 else 0) ∷ []

-- count 2, and each number 2
abbrev pub numbers_text : List ℕ → List ℕ
numbers_text numbers = field2 (length numbers) ++ flat_map field2 numbers

-- tid 4, column count 2, the columns, the primary key
abbrev pub table_text : Table → List ℕ
table_text t = field4 t.tid ++ field2 (length t.columns) ++ flat_map column_text t.columns ++ numbers_text t.key

-- unique 1, the columns
abbrev pub index_text : SqlIndex → List ℕ
index_text i = (if i.unique then 1 else 0) ∷ numbers_text i.columns

-- ---- what others read off them

abbrev pub kinds_of : Table → List ValueKind
kinds_of t = map (λ c. kind_of c.holds) t.columns

abbrev pub table_names : Table → List (List ℕ)
table_names t = map (λ c. c.name) t.columns
