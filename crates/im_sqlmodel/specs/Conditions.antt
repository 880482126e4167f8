-- What a condition means, and what is wrong with it, from the left.
use Rattle.std.specs.Prelude.{ℕ, zero, suc, Bool, true, false, not, if◌then◌else◌, List, [], ◌∷◌, ◌++◌, map, slice_index_or, codes, position, is_none, bytes_eq, Option, Some, None, option_map}
use Rattle.std.specs.List.{list_any, list_all}
use Rattle.std.specs.Option.{option_or}
use Rattle.std.specs.Ordering.{is_eq, is_lt, is_gt}
use Rattle.std.specs.declared.cmp.Ordering.{Ordering}
use denote.Enum.Bare.{sameb}
use Rattle.im_sqltype.specs.Kinds.{kind_of}
use Rattle.im_sqltype.specs.Orders.{value_cmp}
use Rattle.im_sqltype.specs.contracts.kinds.ValueKind.{the_type}
use Rattle.im_sqltype.specs.declared.kinds.ValueKind.{ValueKind}
use Rattle.im_sqltype.specs.declared.kinds.ValueKind.TheVariants as kinds
use Rattle.im_sqltype.specs.declared.values.Value.{Value}
use Rattle.im_sqltype.specs.declared.values.Value.TheVariants.{Null, Integer, Boolean, Varchar, Blob}
use Rattle.im_sqlparse.specs.declared.statements.Literal.{Literal}
use Rattle.im_sqlparse.specs.declared.statements.Literal.TheVariants as literal
use Rattle.im_sqlparse.specs.declared.statements.Operator.{Operator}
use Rattle.im_sqlparse.specs.declared.statements.Operator.TheVariants as operator
use Rattle.im_sqlparse.specs.declared.statements.Operand.{Operand}
use Rattle.im_sqlparse.specs.declared.statements.Operand.TheVariants as operand
use Rattle.im_sqlparse.specs.declared.statements.Condition.{Condition, out-Condition}
use Rattle.im_sqlparse.specs.declared.statements.Condition.TheOpen.{Condition-F}
use Rattle.im_sqlparse.specs.Formed.{Level}
use Rattle.im_sqlmodel.specs.Options.{first_found}
use Rattle.im_sqlmodel.specs.declared.answers.SqlError.{SqlError}
use Rattle.im_sqlmodel.specs.declared.answers.SqlError.TheVariants as error
use Rattle.im_sqlmodel.specs.declared.tables.Column.{Column}
use Rattle.im_sqlmodel.specs.declared.tables.Nameable.{Nameable}
use Rattle.im_sqlmodel.specs.declared.tables.Table.{Table}

-- ---- values

abbrev pub literal_value : Literal → Value
literal_value literal.Null = Null
literal_value (literal.Boolean b) = Boolean b
literal_value (literal.Integer n) = Integer n
literal_value (literal.Text octets) = Varchar octets
literal_value (literal.Blob octets) = Blob octets

-- its kind; NULL has none
abbrev pub kind_in : Value → Option ValueKind
kind_in Null = None
kind_in (Integer n) = Some kinds.Integer
kind_in (Boolean b) = Some kinds.Boolean
kind_in (Varchar octets) = Some kinds.Varchar
kind_in (Blob octets) = Some kinds.Blob

abbrev pub is_null : Value → Bool
is_null Null = true
is_null value = false

-- `==` on kinds
unfoldable pub same_value_kind : ValueKind → ValueKind → Bool
same_value_kind = sameb the_type

-- ---- columns that may be named

abbrev pub named_of : Column → Nameable
named_of c = record { name = c.name; kind = kind_of c.holds }

-- the number of a version in a history
abbrev pub rev_column : Nameable
rev_column = record { name = codes "_rev"; kind = kinds.Integer }

-- the columns of a table, and of its history `_rev` behind them
abbrev pub scope_of : Table → Bool → List Nameable
scope_of t history =
    map named_of t.columns ++ (if history then rev_column ∷ [] else [])

-- stands where there is none
abbrev pub no_column : Nameable
no_column = record { name = []; kind = kinds.Integer }

abbrev pub place_of : List Nameable → List ℕ → Option ℕ
place_of scope name = position (λ n. bytes_eq n.name name) scope

abbrev pub cell_at : List Value → Option ℕ → Value
cell_at row None = Null
cell_at row (Some at) = slice_index_or row at Null

-- the value of a column by its name
abbrev pub value_named : List Nameable → List Value → List ℕ → Value
value_named scope row name = cell_at row (place_of scope name)

-- An OR-list, an AND-list and a comparison are three levels; each of 64 parentheses is two more, and a NOT one.
abbrev pub most_levels : ℕ
most_levels = 131

-- ---- what is wrong

abbrev pub name_fault : List Nameable → List ℕ → Option SqlError
name_fault scope name = if is_none (place_of scope name) then Some (error.NoColumn name) else None

abbrev pub operand_fault : List Nameable → Operand → Option SqlError
operand_fault scope (operand.Column name) = name_fault scope name
operand_fault scope (operand.Literal found) = None

-- the kind of a side; none of NULL and of a column that isn't there
abbrev pub operand_kind : List Nameable → Operand → Option ValueKind
operand_kind scope (operand.Column name) = option_map (λ at. (slice_index_or scope at no_column).kind) (place_of scope name)
operand_kind scope (operand.Literal found) = kind_in (literal_value found)

-- two kinds that differ
abbrev pub kinds_differ : Option ValueKind → Option ValueKind → Bool
kinds_differ (Some a) (Some b) = not (same_value_kind a b)
kinds_differ (Some a) None = false
kinds_differ None b = false

-- the columns from the left, and then the types
abbrev pub comparison_fault : List Nameable → Operand → ℕ → Operand → Option SqlError
comparison_fault scope left at right =
    option_or (operand_fault scope left) (option_or (operand_fault scope right)
    (if kinds_differ (operand_kind scope left) (operand_kind scope right) then Some (error.Compare at) else None))

-- of one level, where `inner` says what is wrong with the conditions in it
abbrev pub fault_at_level : (Condition → Option SqlError) → List Nameable → Level → Option SqlError
fault_at_level inner scope (Condition-F.Any cs) = first_found inner cs
fault_at_level inner scope (Condition-F.All cs) = first_found inner cs
fault_at_level inner scope (Condition-F.Not c) = inner c
fault_at_level inner scope (Condition-F.Compare left o at right) = comparison_fault scope left at right
fault_at_level inner scope (Condition-F.Nullness name negated) = name_fault scope name

abbrev pub fault_by : (Condition → Option SqlError) → List Nameable → Condition → Option SqlError
fault_by inner scope c = fault_at_level inner scope (out-Condition c)

abbrev pub fault_to : ℕ → List Nameable → Condition → Option SqlError
fault_to zero scope c = None
fault_to (suc levels) scope c = fault_by (fault_to levels scope) scope c

abbrev pub filter_fault : List Nameable → Option Condition → Option SqlError
filter_fault scope None = None
filter_fault scope (Some c) = fault_to most_levels scope c

-- ---- what it means: it holds or it doesn't; NULL is a value, and the least

abbrev pub operand_value : List Nameable → List Value → Operand → Value
operand_value scope row (operand.Column name) = value_named scope row name
operand_value scope row (operand.Literal found) = literal_value found

abbrev pub compares : Operator → Ordering → Bool
compares operator.Equal o = is_eq o
compares operator.Unequal o = not (is_eq o)
compares operator.Less o = is_lt o
compares operator.AtMost o = not (is_gt o)
compares operator.Greater o = is_gt o
compares operator.AtLeast o = not (is_lt o)

abbrev pub meets_at : (Condition → Bool) → List Nameable → List Value → Level → Bool
meets_at inner scope row (Condition-F.Any cs) = list_any inner cs
meets_at inner scope row (Condition-F.All cs) = list_all inner cs
meets_at inner scope row (Condition-F.Not c) = not (inner c)
meets_at inner scope row (Condition-F.Compare left o at right) =
    compares o (value_cmp (operand_value scope row left) (operand_value scope row right))
meets_at inner scope row (Condition-F.Nullness name negated) =
    if negated then not (is_null (value_named scope row name)) else is_null (value_named scope row name)

abbrev pub meets_by : (Condition → Bool) → List Nameable → List Value → Condition → Bool
meets_by inner scope row c = meets_at inner scope row (out-Condition c)

abbrev pub meets_to : ℕ → List Nameable → List Value → Condition → Bool
meets_to zero scope row c = false
meets_to (suc levels) scope row c = meets_by (meets_to levels scope row) scope row c

-- the row is one of those that are meant
abbrev pub meets : List Nameable → Option Condition → List Value → Bool
meets scope None row = true
meets scope (Some c) row = meets_to most_levels scope row c
