-- Statements are formed.
use Rattle.std.proofs.Common.{◌≡◌, ◌≤◌, ◌<◌, ◌+◌, ℕ, zero, suc, Bool, true, false, cond, nat_lt, List, [], ◌∷◌, ◌++◌, length, All, Option, Some, None, Result, Ok, Err, is_ok, refl, sym, ap, true≢false, subst, ltb-true, length-append, arith}
use Rattle.std.proofs.lemmas.List.Elements.{All-nil, All-cons, All-push}
use Rattle.std.specs.Result.{result_unwrap_or}
use Rattle.im_sqlparse.specs.declared.errors.SyntaxKind.TheVariants as fault
use Rattle.im_sqlparse.specs.declared.errors.SqlSyntax.{SqlSyntax}
use Rattle.im_sqlparse.specs.declared.kinds.Kind.{Kind}
use Rattle.im_sqlparse.specs.declared.kinds.Kind.TheVariants as k
use Rattle.im_sqlparse.specs.declared.statements.DeclaredType.{DeclaredType}
use Rattle.im_sqlparse.specs.declared.statements.DeclaredType.TheVariants as holds
use Rattle.im_sqlparse.specs.declared.statements.ColumnDefinition.{ColumnDefinition}
use Rattle.im_sqlparse.specs.declared.statements.Literal.{Literal}
use Rattle.im_sqlparse.specs.declared.statements.Condition.{Condition}
use Rattle.im_sqlparse.specs.declared.statements.Period.{Period}
use Rattle.im_sqlparse.specs.declared.statements.Period.TheVariants as period
use Rattle.im_sqlparse.specs.declared.statements.OrderTerm.{OrderTerm}
use Rattle.im_sqlparse.specs.declared.statements.Insertion.{Insertion}
use Rattle.im_sqlparse.specs.declared.statements.Form.{Form}
use Rattle.im_sqlparse.specs.declared.statements.Form.TheVariants as form
use Rattle.im_sqlparse.specs.Lex.{Text}
use Rattle.im_sqlparse.specs.Input.{Input, Reader, Parsed, start_of, and_then, ◌>>=◌, ◌>>◌, ◌<$>◌, pure, fails, left, sees, peek, take_token, eat, expect, separated}
use Rattle.im_sqlparse.specs.Values.{name, column, number, names, row}
use Rattle.im_sqlparse.specs.Conditions.{filter}
use Rattle.im_sqlparse.specs.Statements.{size, holds_by, column_type, not_null, most_columns, new_column, definition, definitions_from, definitions, key, if_not_exists, create_table, create_index, create_by, create, insertion, delete_statement, select_list, source, most_number, when_by, when, order_term, order, count_behind, select, statement_by, statement, whole_statement, value_of, statement_of}
use Rattle.im_sqlparse.specs.Formed.{IsName, IsColumnName, AreNames, IsLiteralRow, IsFilter, IsDeclared, IsDefinition, IsPeriod, IsColumnList, IsOrderTerm, IsCount, IsInsertion, IsStatement}
use Rattle.im_sqlparse.proofs.Gives.{Given, Gives, SomeOf, weaker, both, after, of_pure, of_refuse, of_cond, of_choice, of_map, of_separated}
use Rattle.im_sqlparse.proofs.NameRules.{name_gives, column_gives}
use Rattle.im_sqlparse.proofs.FormedParts.{IsWithin, number_gives, row_gives, names_give, filter_gives}

-- ---- CREATE

size_gives : Gives (IsWithin 1 1024) size
unfolding size
size_gives =
    let given : Reader ℕ = number 1 1024 >>= (λ n. expect k.CloseBracket >>= (λ _. pure n)) in
    after (IsWithin 1 1024) (eat k.OpenBracket) (λ found. cond found given (pure 1024)) (λ found.
    of_cond (IsWithin 1 1024) found given (pure 1024)
    (both (IsWithin 1 1024) (IsWithin 1 1024) (number 1 1024) (λ n. expect k.CloseBracket >>= (λ _. pure n)) (number_gives 1 1024) (λ n h.
    after (IsWithin 1 1024) (expect k.CloseBracket) (λ _. pure n) (λ _. of_pure (IsWithin 1 1024) n h)))
    (of_pure (IsWithin 1 1024) 1024 (omega arith, omega arith)))

holds_by_gives : (what : Kind) → Gives IsDeclared (holds_by what)
holds_by_gives k.Integer = after IsDeclared take_token (λ _. pure holds.Integer) (λ _. of_pure IsDeclared holds.Integer tt)
holds_by_gives k.Boolean = after IsDeclared take_token (λ _. pure holds.Boolean) (λ _. of_pure IsDeclared holds.Boolean tt)
holds_by_gives k.Varchar = after IsDeclared take_token (λ _. holds.Varchar <$> size) (λ _. of_map (IsWithin 1 1024) IsDeclared holds.Varchar size size_gives (λ _ h. h))
holds_by_gives k.Blob = after IsDeclared take_token (λ _. holds.Blob <$> size) (λ _. of_map (IsWithin 1 1024) IsDeclared holds.Blob size size_gives (λ _ h. h))
holds_by_gives _ = of_refuse IsDeclared

column_type_gives : Gives IsDeclared column_type
unfolding column_type
column_type_gives = after IsDeclared peek holds_by holds_by_gives

-- a column behind so many others, which are fewer than there may be
abbrev IsNew : ℕ → Text → Type 0
IsNew count called = IsName called × (count < most_columns)

few_given : (count : ℕ) (i : Input) (p : Text × Input) (b : Bool) → nat_lt count most_columns ≡ b → IsName p.0
    → Given (IsNew count) (cond b (Ok (p.0, p.1)) (fails fault.Number i))
few_given count i p true few h = (h, ltb-true count most_columns few)
few_given count i p false few h = tt

new_given : (count : ℕ) (i : Input) (o : Parsed Text) → Given IsName o
    → Given (IsNew count) (and_then o (λ found behind. cond (nat_lt count most_columns) (Ok (found, behind)) (fails fault.Number i)))
new_given count i (Ok p) h = few_given count i p (nat_lt count most_columns) refl h
new_given count i (Err e) h = tt

new_column_gives : (count : ℕ) → Gives (IsNew count) (new_column count)
unfolding new_column
new_column_gives count i = new_given count i (name i) (name_gives i)

abbrev IsNewDefinition : ℕ → ColumnDefinition → Type 0
IsNewDefinition count d = IsDefinition d × (count < most_columns)

definition_gives : (count : ℕ) → Gives (IsNewDefinition count) (definition count)
unfolding definition
definition_gives count =
    let made : Text → DeclaredType → Bool → ColumnDefinition = λ called what required. record { name = called; holds = what; not_null = required } in
    both (IsNew count) (IsNewDefinition count) (new_column count) (λ called. column_type >>= (λ what. not_null >>= (λ required. pure (made called what required)))) (new_column_gives count) (λ called named.
    both IsDeclared (IsNewDefinition count) column_type (λ what. not_null >>= (λ required. pure (made called what required))) column_type_gives (λ what declared.
    after (IsNewDefinition count) not_null (λ required. pure (made called what required)) (λ required.
    of_pure (IsNewDefinition count) (made called what required) ((named.0, declared), named.1))))

-- columns of a table
abbrev AreColumns : List ColumnDefinition → Type 0
AreColumns ds = SomeOf IsDefinition ds × (length ds ≤ most_columns)

one_column_more : (found : List ColumnDefinition) (x : ColumnDefinition) → All IsDefinition found → IsNewDefinition (length found) x → AreColumns (found ++ x ∷ [])
one_column_more found x all new =
    let len = length-append found (x ∷ []) in
    ((omega (arith, len), All-push IsDefinition found x all new.0), omega (arith, len, new.1))

definitions_from_give : (n : ℕ) (found : List ColumnDefinition) → All IsDefinition found → Gives AreColumns (definitions_from n found)
unfolding definitions_from
definitions_from_give zero found all = of_refuse AreColumns
definitions_from_give (suc n) found all =
    both (IsNewDefinition (length found)) AreColumns (definition (length found))
    (λ x. expect k.Comma >>= (λ _. eat k.Primary >>= (λ is_last. cond is_last (pure (found ++ x ∷ [])) (definitions_from n (found ++ x ∷ []))))) (definition_gives (length found)) (λ x new.
    after AreColumns (expect k.Comma) (λ _. eat k.Primary >>= (λ is_last. cond is_last (pure (found ++ x ∷ [])) (definitions_from n (found ++ x ∷ [])))) (λ _.
    after AreColumns (eat k.Primary) (λ is_last. cond is_last (pure (found ++ x ∷ [])) (definitions_from n (found ++ x ∷ []))) (λ is_last.
    of_cond AreColumns is_last (pure (found ++ x ∷ [])) (definitions_from n (found ++ x ∷ []))
    (of_pure AreColumns (found ++ x ∷ []) (one_column_more found x all new))
    (definitions_from_give n (found ++ x ∷ []) (All-push IsDefinition found x all new.0)))))

definitions_give : Gives AreColumns definitions
unfolding definitions
definitions_give i = definitions_from_give (left i) [] (All-nil IsDefinition) i

one_name : (called : Text) → IsName called → AreNames (called ∷ [])
one_name called h = (omega arith, All-cons IsName called [] h (All-nil IsName))

key_gives : Gives AreNames key
unfolding key
key_gives i =
    of_choice AreNames (sees k.Open i) (names i) (((λ found. found ∷ []) <$> name) i) (names_give i)
    (of_map IsName AreNames (λ found. found ∷ []) name name_gives one_name i)

create_table_gives : Gives IsStatement create_table
unfolding create_table
create_table_gives =
    let made : Bool → Text → List ColumnDefinition → List Text → Form =
    λ unless table columns primary. form.CreateTable (record { if_not_exists = unless; table = table; columns = columns; key = primary }) in
    after IsStatement if_not_exists (λ unless. name >>= (λ table. expect k.Open >>= (λ _. definitions >>= (λ columns. expect k.Key >>= (λ _. key >>= (λ primary. expect k.Close >>= (λ _. pure (made unless table columns primary)))))))) (λ unless.
    both IsName IsStatement name (λ table. expect k.Open >>= (λ _. definitions >>= (λ columns. expect k.Key >>= (λ _. key >>= (λ primary. expect k.Close >>= (λ _. pure (made unless table columns primary))))))) name_gives (λ table named.
    after IsStatement (expect k.Open) (λ _. definitions >>= (λ columns. expect k.Key >>= (λ _. key >>= (λ primary. expect k.Close >>= (λ _. pure (made unless table columns primary)))))) (λ _.
    both AreColumns IsStatement definitions (λ columns. expect k.Key >>= (λ _. key >>= (λ primary. expect k.Close >>= (λ _. pure (made unless table columns primary))))) definitions_give (λ columns are.
    after IsStatement (expect k.Key) (λ _. key >>= (λ primary. expect k.Close >>= (λ _. pure (made unless table columns primary)))) (λ _.
    both AreNames IsStatement key (λ primary. expect k.Close >>= (λ _. pure (made unless table columns primary))) key_gives (λ primary names.
    after IsStatement (expect k.Close) (λ _. pure (made unless table columns primary)) (λ _.
    of_pure IsStatement (made unless table columns primary) (record { table = named; some = are.0.0; few = are.1; columns = are.0.1; key = names }))))))))

create_index_gives : (unique : Bool) → Gives IsStatement (create_index unique)
unfolding create_index
create_index_gives unique =
    let made : Text → List Text → Form = λ table columns. form.CreateIndex (record { unique = unique; table = table; columns = columns }) in
    after IsStatement (expect k.On) (λ _. name >>= (λ table. names >>= (λ columns. pure (made table columns)))) (λ _.
    both IsName IsStatement name (λ table. names >>= (λ columns. pure (made table columns))) name_gives (λ table named.
    both AreNames IsStatement names (λ columns. pure (made table columns)) names_give (λ columns are.
    of_pure IsStatement (made table columns) (record { table = named; columns = are }))))

create_by_gives : (what : Kind) → Gives IsStatement (create_by what)
create_by_gives k.Table = after IsStatement take_token (λ _. create_table) (λ _. create_table_gives)
create_by_gives k.Index = after IsStatement take_token (λ _. create_index false) (λ _. create_index_gives false)
create_by_gives k.Unique = after IsStatement (take_token >> expect k.Index) (λ _. create_index true) (λ _. create_index_gives true)
create_by_gives _ = of_refuse IsStatement

create_gives : Gives IsStatement create
unfolding create
create_gives = after IsStatement peek create_by create_by_gives

-- ---- writes

insertion_gives : Gives IsInsertion insertion
unfolding insertion
insertion_gives =
    let made : Text → List Text → List (List Literal) → Insertion = λ table columns rows. record { table = table; columns = columns; rows = rows } in
    after IsInsertion (expect k.Into) (λ _. name >>= (λ table. names >>= (λ columns. expect k.Values >>= (λ _. separated k.Comma row >>= (λ rows. pure (made table columns rows)))))) (λ _.
    both IsName IsInsertion name (λ table. names >>= (λ columns. expect k.Values >>= (λ _. separated k.Comma row >>= (λ rows. pure (made table columns rows))))) name_gives (λ table named.
    both AreNames IsInsertion names (λ columns. expect k.Values >>= (λ _. separated k.Comma row >>= (λ rows. pure (made table columns rows)))) names_give (λ columns are.
    after IsInsertion (expect k.Values) (λ _. separated k.Comma row >>= (λ rows. pure (made table columns rows))) (λ _.
    both (SomeOf IsLiteralRow) IsInsertion (separated k.Comma row) (λ rows. pure (made table columns rows)) (of_separated IsLiteralRow k.Comma row row_gives) (λ rows given.
    of_pure IsInsertion (made table columns rows) (record { table = named; columns = are; some = given.0; rows = given.1 }))))))

delete_gives : Gives IsStatement delete_statement
unfolding delete_statement
delete_gives =
    let made : Text → Option Condition → Form = λ table which. form.Delete (record { table = table; filter = which }) in
    after IsStatement (expect k.From) (λ _. name >>= (λ table. filter false >>= (λ which. pure (made table which)))) (λ _.
    both IsName IsStatement name (λ table. filter false >>= (λ which. pure (made table which))) name_gives (λ table named.
    both (IsFilter false) IsStatement (filter false) (λ which. pure (made table which)) (filter_gives false) (λ which met.
    of_pure IsStatement (made table which) (record { table = named; filter = met }))))

-- ---- SELECT

select_list_gives : Gives IsColumnList select_list
unfolding select_list
select_list_gives =
    after IsColumnList (eat k.Star) (λ found. cond found (pure None) (Some <$> separated k.Comma (column true))) (λ found.
    of_cond IsColumnList found (pure None) (Some <$> separated k.Comma (column true)) (of_pure IsColumnList None tt)
    (of_map (SomeOf (IsColumnName true)) IsColumnList Some (separated k.Comma (column true)) (of_separated (IsColumnName true) k.Comma (column true) (column_gives true)) (λ _ h. h)))

abbrev IsSource : Text × Bool → Type 0
IsSource from = IsName from.0

source_gives : Gives IsSource source
unfolding source
source_gives =
    let past : Reader (Text × Bool) = expect k.History >>= (λ _. expect k.Of >>= (λ _. name >>= (λ table. expect k.Close >>= (λ _. pure (table, true))))) in
    let now : Reader (Text × Bool) = (λ table. (table, false)) <$> name in
    after IsSource (eat k.Open) (λ found. cond found past now) (λ found.
    of_cond IsSource found past now
    (after IsSource (expect k.History) (λ _. expect k.Of >>= (λ _. name >>= (λ table. expect k.Close >>= (λ _. pure (table, true))))) (λ _.
    after IsSource (expect k.Of) (λ _. name >>= (λ table. expect k.Close >>= (λ _. pure (table, true)))) (λ _.
    both IsName IsSource name (λ table. expect k.Close >>= (λ _. pure (table, true))) name_gives (λ table h.
    after IsSource (expect k.Close) (λ _. pure (table, true)) (λ _. of_pure IsSource (table, true) h)))))
    (of_map IsName IsSource (λ table. (table, false)) name name_gives (λ _ h. h)))

when_by_gives : (what : Kind) → Gives IsPeriod (when_by what)
when_by_gives k.Before =
    after IsPeriod (take_token >> expect k.Tx) (λ _. period.Before <$> number 1 most_number) (λ _.
    of_map (IsWithin 1 most_number) IsPeriod period.Before (number 1 most_number) (number_gives 1 most_number) (λ _ h. h))
when_by_gives k.Until =
    after IsPeriod (take_token >> expect k.Tx) (λ _. period.Until <$> number 0 most_number) (λ _.
    of_map (IsWithin 0 most_number) IsPeriod period.Until (number 0 most_number) (number_gives 0 most_number) (λ _ h. h.1))
when_by_gives _ = of_pure IsPeriod period.Now tt

when_gives : Gives IsPeriod when
unfolding when
when_gives = after IsPeriod peek when_by when_by_gives

order_term_gives : Gives IsOrderTerm order_term
unfolding order_term
order_term_gives =
    let made : Text → Bool → OrderTerm = λ by descending. record { column = by; descending = descending } in
    both (IsColumnName true) IsOrderTerm (column true) (λ by. eat k.Desc >>= (λ descending. cond descending (pure false) (eat k.Asc) >>= (λ _. pure (made by descending)))) (column_gives true) (λ by h.
    after IsOrderTerm (eat k.Desc) (λ descending. cond descending (pure false) (eat k.Asc) >>= (λ _. pure (made by descending))) (λ descending.
    after IsOrderTerm (cond descending (pure false) (eat k.Asc)) (λ _. pure (made by descending)) (λ _.
    of_pure IsOrderTerm (made by descending) h)))

order_gives : Gives (All IsOrderTerm) order
unfolding order
order_gives =
    after (All IsOrderTerm) (eat k.Order) (λ found. cond found (expect k.By >> separated k.Comma order_term) (pure [])) (λ found.
    of_cond (All IsOrderTerm) found (expect k.By >> separated k.Comma order_term) (pure [])
    (after (All IsOrderTerm) (expect k.By) (λ _. separated k.Comma order_term) (λ _.
    weaker (SomeOf IsOrderTerm) (All IsOrderTerm) (separated k.Comma order_term) (λ _ h. h.1) (of_separated IsOrderTerm k.Comma order_term order_term_gives)))
    (of_pure (All IsOrderTerm) [] (All-nil IsOrderTerm)))

count_gives : (word : Kind) → Gives IsCount (count_behind word)
unfolding count_behind
count_gives word =
    after IsCount (eat word) (λ found. cond found (Some <$> number 0 most_number) (pure None)) (λ found.
    of_cond IsCount found (Some <$> number 0 most_number) (pure None)
    (of_map (IsWithin 0 most_number) IsCount Some (number 0 most_number) (number_gives 0 most_number) (λ _ h. h.1))
    (of_pure IsCount None tt))

select_gives : Gives IsStatement select
unfolding select
select_gives =
    let made : Option (List Text) → Text × Bool → Period → Option Condition → List OrderTerm → Option ℕ → Option ℕ → Form =
    λ columns from at which by limit offset. form.Select (record { columns = columns; table = from.0; history = from.1; period = at; filter = which; order = by; limit = limit; offset = offset }) in
    both IsColumnList IsStatement select_list (λ columns. expect k.From >>= (λ _. source >>= (λ from. when >>= (λ at. filter true >>= (λ which. order >>= (λ by. count_behind k.Limit >>= (λ limit. count_behind k.Offset >>= (λ offset. pure (made columns from at which by limit offset))))))))) select_list_gives (λ columns shown.
    after IsStatement (expect k.From) (λ _. source >>= (λ from. when >>= (λ at. filter true >>= (λ which. order >>= (λ by. count_behind k.Limit >>= (λ limit. count_behind k.Offset >>= (λ offset. pure (made columns from at which by limit offset)))))))) (λ _.
    both IsSource IsStatement source (λ from. when >>= (λ at. filter true >>= (λ which. order >>= (λ by. count_behind k.Limit >>= (λ limit. count_behind k.Offset >>= (λ offset. pure (made columns from at which by limit offset))))))) source_gives (λ from named.
    both IsPeriod IsStatement when (λ at. filter true >>= (λ which. order >>= (λ by. count_behind k.Limit >>= (λ limit. count_behind k.Offset >>= (λ offset. pure (made columns from at which by limit offset)))))) when_gives (λ at read.
    both (IsFilter true) IsStatement (filter true) (λ which. order >>= (λ by. count_behind k.Limit >>= (λ limit. count_behind k.Offset >>= (λ offset. pure (made columns from at which by limit offset))))) (filter_gives true) (λ which met.
    both (All IsOrderTerm) IsStatement order (λ by. count_behind k.Limit >>= (λ limit. count_behind k.Offset >>= (λ offset. pure (made columns from at which by limit offset)))) order_gives (λ by ordered.
    both IsCount IsStatement (count_behind k.Limit) (λ limit. count_behind k.Offset >>= (λ offset. pure (made columns from at which by limit offset))) (count_gives k.Limit) (λ limit most.
    both IsCount IsStatement (count_behind k.Offset) (λ offset. pure (made columns from at which by limit offset)) (count_gives k.Offset) (λ offset first.
    of_pure IsStatement (made columns from at which by limit offset)
    (record { columns = shown; table = named; period = read; filter = met; order = ordered; limit = most; offset = first })))))))))

-- ---- the whole text

statement_by_gives : (what : Kind) → Gives IsStatement (statement_by what)
statement_by_gives k.Create = after IsStatement take_token (λ _. create) (λ _. create_gives)
statement_by_gives k.Upsert = after IsStatement take_token (λ _. form.Upsert <$> insertion) (λ _. of_map IsInsertion IsStatement form.Upsert insertion insertion_gives (λ _ h. h))
statement_by_gives k.Insert = after IsStatement take_token (λ _. form.Insert <$> insertion) (λ _. of_map IsInsertion IsStatement form.Insert insertion insertion_gives (λ _ h. h))
statement_by_gives k.Delete = after IsStatement take_token (λ _. delete_statement) (λ _. delete_gives)
statement_by_gives k.Select = after IsStatement take_token (λ _. select) (λ _. select_gives)
statement_by_gives _ = of_refuse IsStatement

statement_gives : Gives IsStatement statement
unfolding statement
statement_gives = after IsStatement peek statement_by statement_by_gives

whole_gives : Gives IsStatement whole_statement
unfolding whole_statement
whole_gives =
    both IsStatement IsStatement statement (λ found. eat k.Semicolon >>= (λ _. expect k.End >>= (λ _. pure found))) statement_gives (λ found h.
    after IsStatement (eat k.Semicolon) (λ _. expect k.End >>= (λ _. pure found)) (λ _.
    after IsStatement (expect k.End) (λ _. pure found) (λ _. of_pure IsStatement found h)))

value_formed : (o : Parsed Form) (said : Form) → Given IsStatement o → value_of o ≡ Ok said → IsStatement said
value_formed (Ok p) said h is =
    subst IsStatement (ap (λ (r : Result Form SqlSyntax). result_unwrap_or r p.0) is) h
value_formed (Err e) said h is = absurd (true≢false (sym (ap is_ok is)))

pub statement_formed : (text : Text) (said : Form) → statement_of text ≡ Ok said → IsStatement said
unfolding statement_of
statement_formed text said is = value_formed (whole_statement (start_of text)) said (whole_gives (start_of text)) is
