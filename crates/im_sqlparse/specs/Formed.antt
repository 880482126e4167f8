-- What holds of each statement that is read.
use Rattle.std.specs.Prelude.{◌≡◌, ◌≤◌, ◌⊎◌, ◌==◌, ◌||◌, ⊤, ℕ, zero, suc, Bool, true, false, List, length, slice_index, codes, Option, Some, None, All, FitsSigned}
use Rattle.std.specs.Char.{is_ascii_digit, is_ascii_lowercase}
use Rattle.std.specs.Int.{w64}
use Rattle.im_sqlparse.specs.declared.kinds.Kind.TheVariants as k
use Rattle.im_sqlparse.specs.declared.statements.Literal.{Literal}
use Rattle.im_sqlparse.specs.declared.statements.Literal.TheVariants as literal
use Rattle.im_sqlparse.specs.declared.statements.DeclaredType.{DeclaredType}
use Rattle.im_sqlparse.specs.declared.statements.DeclaredType.TheVariants as holds
use Rattle.im_sqlparse.specs.declared.statements.ColumnDefinition.{ColumnDefinition}
use Rattle.im_sqlparse.specs.declared.statements.Operand.{Operand}
use Rattle.im_sqlparse.specs.declared.statements.Operand.TheVariants as operand
use Rattle.im_sqlparse.specs.declared.statements.Condition.{Condition, out-Condition}
use Rattle.im_sqlparse.specs.declared.statements.Condition.TheOpen.{Condition-F}
use Rattle.im_sqlparse.specs.declared.statements.Period.{Period}
use Rattle.im_sqlparse.specs.declared.statements.Period.TheVariants as period
use Rattle.im_sqlparse.specs.declared.statements.OrderTerm.{OrderTerm}
use Rattle.im_sqlparse.specs.declared.statements.CreateTable.{CreateTable}
use Rattle.im_sqlparse.specs.declared.statements.CreateIndex.{CreateIndex}
use Rattle.im_sqlparse.specs.declared.statements.Insertion.{Insertion}
use Rattle.im_sqlparse.specs.declared.statements.Delete.{Delete}
use Rattle.im_sqlparse.specs.declared.statements.Select.{Select}
use Rattle.im_sqlparse.specs.declared.statements.Form.{Form}
use Rattle.im_sqlparse.specs.declared.statements.Form.TheVariants as form
use Rattle.im_sqlparse.specs.Lex.{Text, keyword}
use Rattle.im_sqlparse.specs.Conditions.{most_depth}
use Rattle.im_sqlparse.specs.Statements.{most_columns, most_number}

-- what a name is made of: a-z, 0-9 and `_`
abbrev pub is_name_octet : ℕ → Bool
is_name_octet octet = is_ascii_lowercase octet || is_ascii_digit octet || octet == 95

-- 1 to 48 of these, a letter first, and no keyword
pub record IsName (name : Text) : Type 0 where
  pub some : 1 ≤ length name
  pub short : length name ≤ 48
  pub begins : is_ascii_lowercase (slice_index name 0) ≡ true
  pub letters : All (λ octet. is_name_octet octet ≡ true) name
  pub free : keyword name ≡ k.Word

-- a column: a name, or `_rev` where that may stand
abbrev pub IsColumnName : Bool → Text → Type 0
IsColumnName true name = IsName name ⊎ (name ≡ codes "_rev")
IsColumnName false name = IsName name

abbrev pub AreNames : List Text → Type 0
AreNames names = (1 ≤ length names) × All IsName names

-- a number has 64 bits with a sign
abbrev pub IsLiteral : Literal → Type 0
IsLiteral (literal.Integer n) = FitsSigned w64 n
IsLiteral other = ⊤

abbrev pub IsLiteralRow : List Literal → Type 0
IsLiteralRow row = (1 ≤ length row) × All IsLiteral row

-- ---- conditions; `rev` says whether `_rev` may stand where a column may

abbrev pub IsOperand : Bool → Operand → Type 0
IsOperand rev (operand.Column name) = IsColumnName rev name
IsOperand rev (operand.Literal found) = IsLiteral found

-- one level of a condition, as `out-Condition` opens it
abbrev pub Level : Type 0
Level = Condition-F Condition

abbrev pub IsComparisonAt : Bool → Level → Type 0
IsComparisonAt rev (Condition-F.Compare left o at right) = IsOperand rev left × IsOperand rev right
IsComparisonAt rev (Condition-F.Nullness name negated) = IsColumnName rev name
IsComparisonAt rev other = ⊥

-- a comparison or IS [NOT] NULL, in which no condition stands
abbrev pub IsComparison : Bool → Condition → Type 0
IsComparison rev c = IsComparisonAt rev (out-Condition c)

abbrev pub IsConjunctionAt : (Condition → Type 0) → Level → Type 0
IsConjunctionAt IsOne (Condition-F.All cs) = (1 ≤ length cs) × All IsOne cs
IsConjunctionAt IsOne other = ⊥

-- factors with AND between, also one alone
abbrev pub IsConjunction : (Condition → Type 0) → Condition → Type 0
IsConjunction IsOne c = IsConjunctionAt IsOne (out-Condition c)

abbrev pub IsDisjunctionAt : (Condition → Type 0) → Level → Type 0
IsDisjunctionAt IsOne (Condition-F.Any cs) = (1 ≤ length cs) × All (IsConjunction IsOne) cs
IsDisjunctionAt IsOne other = ⊥

-- conjunctions with OR between, also one alone
abbrev pub IsDisjunction : (Condition → Type 0) → Condition → Type 0
IsDisjunction IsOne c = IsDisjunctionAt IsOne (out-Condition c)

abbrev pub IsOpenedAt : (Condition → Type 0) → Level → Type 0
IsOpenedAt IsOne (Condition-F.Not c) = IsOne c
IsOpenedAt IsOne (Condition-F.Any cs) = IsDisjunctionAt IsOne (Condition-F.Any cs)
IsOpenedAt IsOne other = ⊥

-- NOT of a factor, or a disjunction in parentheses
abbrev pub IsOpened : (Condition → Type 0) → Condition → Type 0
IsOpened IsOne c = IsOpenedAt IsOne (out-Condition c)

-- a factor in which so many NOT and parentheses may stand in one another, as the rule `factor` counts them
abbrev pub IsFactor : Bool → ℕ → Condition → Type 0
IsFactor rev zero c = IsComparison rev c
IsFactor rev (suc depth) c = IsComparison rev c ⊎ IsOpened (IsFactor rev depth) c

abbrev pub IsFilter : Bool → Option Condition → Type 0
IsFilter rev None = ⊤
IsFilter rev (Some c) = IsDisjunction (IsFactor rev most_depth) c

-- ---- statements

-- a text or a blob has 1 to 1024 octets at most
abbrev pub IsDeclared : DeclaredType → Type 0
IsDeclared (holds.Varchar n) = (1 ≤ n) × (n ≤ 1024)
IsDeclared (holds.Blob n) = (1 ≤ n) × (n ≤ 1024)
IsDeclared other = ⊤

abbrev pub IsDefinition : ColumnDefinition → Type 0
IsDefinition d = IsName d.name × IsDeclared d.holds

abbrev pub IsPeriod : Period → Type 0
IsPeriod period.Now = ⊤
IsPeriod (period.Before n) = (1 ≤ n) × (n ≤ most_number)
IsPeriod (period.Until n) = n ≤ most_number

abbrev pub IsColumnList : Option (List Text) → Type 0
IsColumnList None = ⊤
IsColumnList (Some names) = (1 ≤ length names) × All (IsColumnName true) names

abbrev pub IsOrderTerm : OrderTerm → Type 0
IsOrderTerm term = IsColumnName true term.column

abbrev pub IsCount : Option ℕ → Type 0
IsCount None = ⊤
IsCount (Some n) = n ≤ most_number

pub record IsCreateTable (c : CreateTable) : Type 0 where
  pub table : IsName c.table
  pub some : 1 ≤ length c.columns
  pub few : length c.columns ≤ most_columns
  pub columns : All IsDefinition c.columns
  pub key : AreNames c.key

pub record IsCreateIndex (c : CreateIndex) : Type 0 where
  pub table : IsName c.table
  pub columns : AreNames c.columns

pub record IsInsertion (i : Insertion) : Type 0 where
  pub table : IsName i.table
  pub columns : AreNames i.columns
  pub some : 1 ≤ length i.rows
  pub rows : All IsLiteralRow i.rows

pub record IsDeleteStatement (d : Delete) : Type 0 where
  pub table : IsName d.table
  pub filter : IsFilter false d.filter

pub record IsSelect (s : Select) : Type 0 where
  pub columns : IsColumnList s.columns
  pub table : IsName s.table
  pub period : IsPeriod s.period
  pub filter : IsFilter true s.filter
  pub order : All IsOrderTerm s.order
  pub limit : IsCount s.limit
  pub offset : IsCount s.offset

abbrev pub IsStatement : Form → Type 0
IsStatement (form.CreateTable c) = IsCreateTable c
IsStatement (form.CreateIndex c) = IsCreateIndex c
IsStatement (form.Upsert i) = IsInsertion i
IsStatement (form.Insert i) = IsInsertion i
IsStatement (form.Delete d) = IsDeleteStatement d
IsStatement (form.Select s) = IsSelect s
