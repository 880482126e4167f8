-- What a condition says that columns equal.
use Rattle.std.specs.Prelude.{ℕ, false, List, [], ◌∷◌, bytes_eq, slice_index_or, if◌then◌else◌, Option, Some, None}
use Rattle.im_sqltype.specs.declared.columns.ColumnType.TheVariants as types
use Rattle.im_sqltype.specs.declared.values.Value.{Value}
use Rattle.im_sqltype.specs.declared.values.Value.TheVariants.{Null}
use Rattle.im_sqlparse.specs.Formed.{Level}
use Rattle.im_sqlparse.specs.declared.statements.Condition.{Condition, out-Condition}
use Rattle.im_sqlparse.specs.declared.statements.Condition.TheOpen.{Condition-F}
use Rattle.im_sqlparse.specs.declared.statements.Operand.{Operand}
use Rattle.im_sqlparse.specs.declared.statements.Operand.TheVariants as operand
use Rattle.im_sqlparse.specs.declared.statements.Operator.TheVariants as operator
use Rattle.im_sqlmodel.specs.Conditions.{literal_value}
use Rattle.im_sqlmodel.specs.Options.{by_option, first_found}
use Rattle.im_sqlmodel.specs.declared.tables.Column.{Column}
use Rattle.im_sqlmodel.specs.declared.tables.Table.{Table}

abbrev pub listed : Level → List Condition
listed (Condition-F.All cs) = cs
listed other = []

abbrev pub listed_in : Condition → List Condition
listed_in c = listed (out-Condition c)

abbrev pub only_listed : Level → List Condition
only_listed (Condition-F.Any (c ∷ [])) = listed_in c
only_listed other = []

abbrev pub only_listed_in : Condition → List Condition
only_listed_in c = only_listed (out-Condition c)

-- what each row that is meant meets: the conditions of an AND-list that stands alone, in no OR-list of more
abbrev pub conjuncts : Option Condition → List Condition
conjuncts None = []
conjuncts (Some c) = only_listed_in c

-- a column on one side, a literal on the other
abbrev pub bound_by_sides : List ℕ → Operand → Operand → Option Value
bound_by_sides name (operand.Column c) (operand.Literal found) = if bytes_eq c name then Some (literal_value found) else None
bound_by_sides name (operand.Literal found) (operand.Column c) = if bytes_eq c name then Some (literal_value found) else None
bound_by_sides name left right = None

-- `c = v` says that c is v, and `c IS NULL` that it is NULL
abbrev pub bound_at : List ℕ → Level → Option Value
bound_at name (Condition-F.Compare left operator.Equal at right) = bound_by_sides name left right
bound_at name (Condition-F.Nullness c false) = if bytes_eq c name then Some Null else None
bound_at name other = None

abbrev pub bound_by : List ℕ → Condition → Option Value
bound_by name c = bound_at name (out-Condition c)

-- the first value that one of these says a column is
abbrev pub bound : List Condition → List ℕ → Option Value
bound cs name = first_found (bound_by name) cs

-- stands where there is none
abbrev pub no_table_column : Column
no_table_column = record { name = []; holds = types.Integer; not_null = false }

abbrev pub name_at : Table → ℕ → List ℕ
name_at t n = (slice_index_or t.columns n no_table_column).name

-- the values of the columns of these numbers, up to the first that isn't bound
abbrev pub leading : List Condition → Table → List ℕ → List Value
leading cs t [] = []
leading cs t (n ∷ ns) = by_option (bound cs (name_at t n)) [] (λ v. v ∷ leading cs t ns)
