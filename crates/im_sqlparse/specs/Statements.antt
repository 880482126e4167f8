-- Statements.
use Rattle.std.specs.Prelude.{◌≡◌, ℕ, zero, suc, ◌-◌, ◌^◌, Bool, true, false, if◌then◌else◌, nat_lt, List, [], ◌∷◌, ◌++◌, length, Option, Some, None, Result, Ok, Err}
use Rattle.im_sqlparse.specs.declared.kinds.Kind.{Kind}
use Rattle.im_sqlparse.specs.declared.kinds.Kind.TheVariants as k
use Rattle.im_sqlparse.specs.declared.errors.ParseError.{ParseError}
use Rattle.im_sqlparse.specs.declared.errors.ParseError.TheVariants.{Memory, Syntax}
use Rattle.im_sqlparse.specs.declared.errors.SqlSyntax.{SqlSyntax}
use Rattle.im_sqlparse.specs.declared.errors.SyntaxKind.TheVariants as fault
use Rattle.im_sqlparse.specs.declared.statements.DeclaredType.{DeclaredType}
use Rattle.im_sqlparse.specs.declared.statements.DeclaredType.TheVariants as holds
use Rattle.im_sqlparse.specs.declared.statements.ColumnDefinition.{ColumnDefinition}
use Rattle.im_sqlparse.specs.declared.statements.Period.{Period}
use Rattle.im_sqlparse.specs.declared.statements.Period.TheVariants as period
use Rattle.im_sqlparse.specs.declared.statements.OrderTerm.{OrderTerm}
use Rattle.im_sqlparse.specs.declared.statements.Insertion.{Insertion}
use Rattle.im_sqlparse.specs.declared.statements.Form.{Form}
use Rattle.im_sqlparse.specs.declared.statements.Form.TheVariants as form
use Rattle.im_sqlparse.specs.Lex.{Text}
use Rattle.im_sqlparse.specs.Input.{Parsed, Reader, start_of, and_then, ◌>>=◌, ◌>>◌, ◌<$>◌, pure, refuse, fails, left, sees, peek, take_token, eat, expect, separated}
use Rattle.im_sqlparse.specs.Values.{name, column, number, names, row}
use Rattle.im_sqlparse.specs.Conditions.{filter}

-- ---- CREATE

-- the number of octets in brackets, if they come next
unfoldable pub size : Reader ℕ
size = do
  found ← eat k.OpenBracket
  if found then (do n ← number 1 1024; expect k.CloseBracket; pure n) else pure 1024

abbrev pub holds_by : Kind → Reader DeclaredType
holds_by k.Integer = take_token >> pure holds.Integer
holds_by k.Boolean = take_token >> pure holds.Boolean
holds_by k.Varchar = take_token >> holds.Varchar <$> size
holds_by k.Blob = take_token >> holds.Blob <$> size
holds_by _ = refuse

unfoldable pub column_type : Reader DeclaredType
column_type = peek >>= holds_by

unfoldable pub not_null : Reader Bool
not_null = do
  found ← eat k.Not
  if found then expect k.Null >> pure true else pure false

abbrev pub most_columns : ℕ
most_columns = 64

-- the name of a column behind so many others: a 65th is refused at its first octet
unfoldable pub new_column : ℕ → Reader Text
new_column count = λ i. and_then (name i) (λ found behind. if nat_lt count most_columns then Ok (found, behind) else fails fault.Number i)

unfoldable pub definition : ℕ → Reader ColumnDefinition
definition count = do
  called ← new_column count
  what ← column_type
  required ← not_null
  pure (record { name = called; holds = what; not_null = required })

-- Definitions up to PRIMARY, each with a comma behind it. The number bounds the turns.
unfoldable pub definitions_from : ℕ → List ColumnDefinition → Reader (List ColumnDefinition)
definitions_from zero found = refuse
definitions_from (suc n) found = do
  x ← definition (length found)
  expect k.Comma
  is_last ← eat k.Primary
  if is_last then pure (found ++ x ∷ []) else definitions_from n (found ++ x ∷ [])

unfoldable pub definitions : Reader (List ColumnDefinition)
definitions = λ i. definitions_from (left i) [] i

-- the columns of a primary key, behind PRIMARY KEY: one, or some in parentheses
unfoldable pub key : Reader (List Text)
key = λ i. if sees k.Open i then names i else ((λ found. found ∷ []) <$> name) i

unfoldable pub if_not_exists : Reader Bool
if_not_exists = do
  found ← eat k.If
  if found then expect k.Not >> expect k.Exists >> pure true else pure false

-- behind CREATE TABLE
unfoldable pub create_table : Reader Form
create_table = do
  unless ← if_not_exists
  table ← name
  expect k.Open
  columns ← definitions
  expect k.Key
  primary ← key
  expect k.Close
  pure (form.CreateTable (record { if_not_exists = unless; table = table; columns = columns; key = primary }))

-- behind CREATE INDEX
unfoldable pub create_index : Bool → Reader Form
create_index unique = do
  expect k.On
  table ← name
  columns ← names
  pure (form.CreateIndex (record { unique = unique; table = table; columns = columns }))

abbrev pub create_by : Kind → Reader Form
create_by k.Table = take_token >> create_table
create_by k.Index = take_token >> create_index false
create_by k.Unique = take_token >> expect k.Index >> create_index true
create_by _ = refuse

unfoldable pub create : Reader Form
create = peek >>= create_by

-- ---- writes

-- behind UPSERT or INSERT
unfoldable pub insertion : Reader Insertion
insertion = do
  expect k.Into
  table ← name
  columns ← names
  expect k.Values
  rows ← separated k.Comma row
  pure (record { table = table; columns = columns; rows = rows })

-- behind DELETE
unfoldable pub delete_statement : Reader Form
delete_statement = do
  expect k.From
  table ← name
  which ← filter false
  pure (form.Delete (record { table = table; filter = which }))

-- ---- SELECT

-- the columns that are shown: `*` is all
unfoldable pub select_list : Reader (Option (List Text))
select_list = do
  found ← eat k.Star
  if found then pure None else Some <$> separated k.Comma (column true)

-- a table, and whether its history is meant
unfoldable pub source : Reader (Text × Bool)
source = do
  found ← eat k.Open
  if found
      then (do expect k.History; expect k.Of; table ← name; expect k.Close; pure (table, true))
      else (λ table. (table, false)) <$> name

abbrev pub most_number : ℕ
most_number = 2 ^ 64 - 1

abbrev pub when_by : Kind → Reader Period
when_by k.Before = take_token >> expect k.Tx >> period.Before <$> number 1 most_number
when_by k.Until = take_token >> expect k.Tx >> period.Until <$> number 0 most_number
when_by _ = pure period.Now

unfoldable pub when : Reader Period
when = peek >>= when_by

-- a column, and whether the greatest comes first
unfoldable pub order_term : Reader OrderTerm
order_term = do
  by ← column true
  descending ← eat k.Desc
  rising ← (if descending then pure false else eat k.Asc)
  pure (record { column = by; descending = descending })

unfoldable pub order : Reader (List OrderTerm)
order = do
  found ← eat k.Order
  if found then expect k.By >> separated k.Comma order_term else pure []

-- a number behind a keyword, if that comes next
unfoldable pub count_behind : Kind → Reader (Option ℕ)
count_behind word = do
  found ← eat word
  if found then Some <$> number 0 most_number else pure None

-- behind SELECT
unfoldable pub select : Reader Form
select = do
  columns ← select_list
  expect k.From
  from ← source
  at ← when
  which ← filter true
  by ← order
  limit ← count_behind k.Limit
  offset ← count_behind k.Offset
  pure (form.Select (record { columns = columns; table = from.0; history = from.1; period = at; filter = which; order = by; limit = limit; offset = offset }))

-- ---- the whole text

abbrev pub statement_by : Kind → Reader Form
statement_by k.Create = take_token >> create
statement_by k.Upsert = take_token >> form.Upsert <$> insertion
statement_by k.Insert = take_token >> form.Insert <$> insertion
statement_by k.Delete = take_token >> delete_statement
statement_by k.Select = take_token >> select
statement_by _ = refuse

unfoldable pub statement : Reader Form
statement = peek >>= statement_by

-- a statement, one `;` if it comes next, and then the end
unfoldable pub whole_statement : Reader Form
whole_statement = do
  found ← statement
  semicolon ← eat k.Semicolon
  expect k.End
  pure found

-- the statement of a text, or its first fault
abbrev pub value_of : {A : Type 0} → Parsed A → Result A SqlSyntax
value_of (Ok p) = Ok p.0
value_of (Err e) = Err e

unfoldable pub statement_of : Text → Result Form SqlSyntax
statement_of text = value_of (whole_statement (start_of text))

-- what a parser of a whole text answers, unless memory runs out
abbrev pub Parses : Result Form SqlSyntax → Result Form ParseError → Type 0
Parses said (Ok found) = said ≡ Ok found
Parses said (Err Memory) = Unit {0}
Parses said (Err (Syntax e)) = said ≡ Err e
