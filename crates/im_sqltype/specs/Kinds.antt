-- Which values a column may hold.
use Rattle.std.specs.Prelude.{◌≤◌, ⊤, List, [], ◌∷◌, length, FitsSigned}
use Rattle.std.specs.Int.{w64}
use Rattle.im_sqltype.specs.declared.kinds.ValueKind.{ValueKind}
use Rattle.im_sqltype.specs.declared.kinds.ValueKind.TheVariants as kinds
use Rattle.im_sqltype.specs.declared.columns.ColumnType.{ColumnType}
use Rattle.im_sqltype.specs.declared.columns.ColumnType.TheVariants as types
use Rattle.im_sqltype.specs.declared.values.Value.{Value}
use Rattle.im_sqltype.specs.declared.values.Value.TheVariants.{Null, Integer, Boolean, Varchar, Blob}

-- a value of this kind, or NULL, which is of every kind
abbrev pub IsOfKind : ValueKind → Value → Type 0
IsOfKind kind Null = ⊤
IsOfKind kinds.Integer (Integer number) = FitsSigned w64 number
IsOfKind kinds.Boolean (Boolean truth) = ⊤
IsOfKind kinds.Varchar (Varchar octets) = ⊤
IsOfKind kinds.Blob (Blob octets) = ⊤
IsOfKind kind value = ⊥

-- a value for each of these kinds, in order
abbrev pub AreOfKinds : List ValueKind → List Value → Type 0
AreOfKinds [] [] = ⊤
AreOfKinds (kind ∷ kinds) (value ∷ values) = IsOfKind kind value × AreOfKinds kinds values
AreOfKinds kinds values = ⊥

-- the kind of a column's type
abbrev pub kind_of : ColumnType → ValueKind
kind_of types.Integer = kinds.Integer
kind_of types.Boolean = kinds.Boolean
kind_of (types.Varchar limit) = kinds.Varchar
kind_of (types.Blob limit) = kinds.Blob

-- of the column's kind, and no longer than its type allows
abbrev pub FitsColumn : ColumnType → Value → Type 0
FitsColumn type Null = ⊤
FitsColumn types.Integer (Integer number) = FitsSigned w64 number
FitsColumn types.Boolean (Boolean truth) = ⊤
FitsColumn (types.Varchar limit) (Varchar octets) = length octets ≤ limit
FitsColumn (types.Blob limit) (Blob octets) = length octets ≤ limit
FitsColumn type value = ⊥
