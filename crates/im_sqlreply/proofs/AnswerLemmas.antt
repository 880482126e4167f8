-- What is told of a statement that is read has no LF: a name is one of the statement, or of the table's columns.
use Rattle.std.proofs.Common.{◌≡◌, ◌+◌, ◌||◌, ℕ, nat_eq, nat_lt, Bool, true, false, if◌then◌else◌, List, [], ◌∷◌, length, map, take, Option, Some, None, Result, Ok, Err, inl, inr, subst, sym, bytes_eq}
use Rattle.std.proofs.lemmas.List.Elements.{All-map, recursion_from_All}
use Rattle.std.specs.List.{AllByRecursion, list_any}
use Rattle.std.specs.Prelude.{⊤, All, MatchOption, not}
use Rattle.im_model.specs.declared.transactions.Transaction.{Transaction}
use Rattle.im_sqltype.specs.Texts.{row_text}
use Rattle.im_sqltype.specs.declared.columns.Misfit.{Misfit}
use Rattle.im_sqltype.specs.declared.columns.Misfit.TheVariants as misfit
use Rattle.im_sqltype.specs.declared.values.Value.{Value}
use Rattle.im_sqltype.specs.declared.values.Value.TheVariants.{Null}
use Rattle.im_sqlparse.specs.declared.statements.ColumnDefinition.{ColumnDefinition}
use Rattle.im_sqlparse.specs.declared.statements.CreateTable.{CreateTable}
use Rattle.im_sqlparse.specs.declared.statements.CreateIndex.{CreateIndex}
use Rattle.im_sqlparse.specs.declared.statements.Delete.{Delete}
use Rattle.im_sqlparse.specs.declared.statements.Form.{Form}
use Rattle.im_sqlparse.specs.declared.statements.Form.TheVariants as form
use Rattle.im_sqlparse.specs.declared.statements.Insertion.{Insertion}
use Rattle.im_sqlparse.specs.declared.statements.Literal.{Literal}
use Rattle.im_sqlparse.specs.declared.statements.Select.{Select}
use Rattle.im_sqlparse.specs.Formed.{AreNames, IsColumnList, IsColumnName, IsCreateIndex, IsCreateTable, IsDefinition, IsDeleteStatement, IsInsertion, IsName, IsSelect, IsStatement}
use Rattle.im_sqlmodel.specs.Answers.{AnswerIs}
use Rattle.im_sqlmodel.specs.Conditions.{name_fault, filter_fault, scope_of}
use Rattle.im_sqlmodel.specs.Creations.{create_fault, column_fault, twice_fault, names_in, CreateTableIs, CreateTableOf, CreateIndexIs, CreateIndexOf}
use Rattle.im_sqlmodel.specs.Rows.{TableIs}
use Rattle.im_sqlmodel.specs.Selects.{number_named, number_read, select_fault, shown_fault, SelectAt, SelectIs, SelectOf}
use Rattle.im_sqlmodel.specs.Tables.{IsTable, table_names}
use Rattle.im_sqlmodel.specs.Writes.{all_written, cell_fault, cells_fault, count_fault, duplicate_fault, erased, entry_number, inserted, insertion_fault, is_in_key, is_long, marked, misfit_error, misfit_of, most_entries, placed, row_fault, row_given, row_met, rows_dropped, rows_met, stored_at, unique_fault, write_row, write_rows, WriteIs, Work}
use Rattle.im_sqlmodel.specs.Rows.{key_of}
use Rattle.im_sqlmodel.specs.declared.answers.SqlError.{SqlError}
use Rattle.im_sqlmodel.specs.declared.answers.SqlError.TheVariants as error
use Rattle.im_sqlmodel.specs.declared.answers.SqlOut.{SqlOut}
use Rattle.im_sqlmodel.specs.declared.answers.SqlOut.TheVariants as out
use Rattle.im_sqlmodel.specs.declared.rows.StoredRow.{StoredRow}
use Rattle.im_sqlmodel.specs.declared.tables.Column.{Column}
use Rattle.im_sqlmodel.specs.declared.tables.Nameable.{Nameable}
use Rattle.im_sqlmodel.specs.declared.tables.SqlIndex.{SqlIndex}
use Rattle.im_sqlmodel.specs.declared.tables.Table.{Table}
use Rattle.im_sqlmodel.specs.declared.written.Written.{Written}
use Rattle.im_sqlreply.proofs.TextLemmas.{NameLacks}
use Rattle.im_sqlreply.proofs.NameLemmas.{AnswerLacks, FaultLacks, always, answer-or, either-way, find-lacks, first-lacks, map-lacks, name-lacks, or-lacks, then-lacks, twice-lacks}
use Rattle.im_sqlreply.proofs.ConditionLemmas.{filter-lacks, named-lacks}

-- ---- by cases

is-answer : (answer told : Result SqlOut SqlError) → answer ≡ told → AnswerLacks told → AnswerLacks answer
is-answer answer told e lack = subst AnswerLacks (sym e) lack

-- where something is wrong that is told, and where nothing is
by-fault : (o : Option SqlError) (Else : Type 0) (answer : Result SqlOut SqlError) → FaultLacks o → (Else → AnswerLacks answer)
    → MatchOption o Else (λ fault. answer ≡ Err fault) → AnswerLacks answer
by-fault None Else answer lack each is = each is
by-fault (Some fault) Else answer lack each is = is-answer answer (Err fault) is lack

-- where there is no table, and where there is one
by-table : (history : List Transaction) (name : List ℕ) (found : Option Table) (None_ : Type 0) (Some_ : Table → Type 0) (answer : Result SqlOut SqlError)
    → (None_ → AnswerLacks answer) → ((t : Table) → IsTable t → Some_ t → AnswerLacks answer) → TableIs history name found → MatchOption found None_ Some_ → AnswerLacks answer
by-table history name None None_ Some_ answer none some is said = none said
by-table history name (Some t) None_ Some_ answer none some is said = some t is.0 said

-- ---- names of statements

names-from : (names : List (List ℕ)) → AreNames names → AllByRecursion IsName names
names-from names are = recursion_from_All IsName names are.1

columns-lack : (columns names : List (List ℕ)) → AreNames names → FaultLacks (column_fault columns names)
columns-lack columns names are = find-lacks (λ name. not (list_any (bytes_eq name) columns)) names (names-from names are)

names-once : (names : List (List ℕ)) → AreNames names → FaultLacks (twice_fault names)
names-once names are = twice-lacks [] names (names-from names are)

defined : (definitions : List ColumnDefinition) → All IsDefinition definitions → AllByRecursion IsName (names_in definitions)
defined definitions all = recursion_from_All IsName (names_in definitions) (All-map IsName (λ d. d.name) definitions (λ k d less. (all k d less).0))

-- ---- CREATE

create-lacks : (history : List Transaction) (c : CreateTable) (answer : Result SqlOut SqlError) → IsCreateTable c → CreateTableIs history c answer → AnswerLacks answer
create-lacks history c answer is said =
    by-table history c.table said.0 (CreateTableOf history c answer) (λ t. answer ≡ (if c.if_not_exists then Ok out.Nothing else Err (error.Exists c.table))) answer
    (by-fault (create_fault c) _ answer
    (or-lacks _ _ (twice-lacks [] (names_in c.columns) (defined c.columns is.columns)) (or-lacks _ _ (columns-lack (names_in c.columns) c.key is.key) (names-once c.key is.key)))
    (λ made. is-answer answer _ made.2 tt))
    (λ t table e. is-answer answer _ e (either-way AnswerLacks c.if_not_exists (Ok out.Nothing) (Err (error.Exists c.table)) tt (name-lacks c.table is.table))) said.1 said.2

index-lacks : (history : List Transaction) (c : CreateIndex) (answer : Result SqlOut SqlError) → IsCreateIndex c → CreateIndexIs history c answer → AnswerLacks answer
index-lacks history c answer is said =
    by-table history c.table said.0 (answer ≡ Err (error.NoTable c.table)) (λ t. CreateIndexOf history c t answer) answer
    (λ e. is-answer answer _ e (name-lacks c.table is.table))
    (λ t table. by-fault _ _ answer (or-lacks _ _ (columns-lack (table_names t) c.columns is.columns) (names-once c.columns is.columns))
    (λ made. is-answer answer _ made.2.2 (either-way AnswerLacks (nat_eq (length made.0) 0) _ (Err (error.HasRows c.table)) tt (name-lacks c.table is.table)))) said.1 said.2

-- ---- rows

-- the columns' names
abbrev AreNamed : List Column → Type 0
AreNamed columns = AllByRecursion (λ c. IsName c.name) columns

named : (t : Table) → IsTable t → AreNamed t.columns
named t is = recursion_from_All (λ c. IsName c.name) t.columns (λ k d less. (is.columns k d less).0)

count-lacks : (i want : ℕ) (rows : List (List Literal)) → FaultLacks (count_fault i want rows)
count-lacks i want [] = tt
count-lacks i want (row ∷ rows) = either-way FaultLacks (nat_eq (length row) want) (count_fault (i + 1) want rows) (Some (error.Count i want (length row))) (count-lacks (i + 1) want rows) tt

misfit-lacks : (i : ℕ) (name : List ℕ) (why : Misfit) → IsName name → NameLacks (misfit_error i name why)
misfit-lacks i name misfit.Kind is = name-lacks name is
misfit-lacks i name misfit.Long is = name-lacks name is

cell-lacks : (t : Table) (i at : ℕ) (c : Column) (value : Value) → IsName c.name → FaultLacks (cell_fault t i at c value)
cell-lacks t i at c Null is = either-way FaultLacks (c.not_null || is_in_key t at) (Some (error.NullGiven i c.name)) None (name-lacks c.name is) tt
cell-lacks t i at c value is = map-lacks (misfit_error i c.name) (misfit_of c.holds value) (λ why. misfit-lacks i c.name why is)

cells-lack : (t : Table) (i at : ℕ) (cs : List Column) (values : List Value) → AreNamed cs → FaultLacks (cells_fault t i at cs values)
cells-lack t i at [] values are = tt
cells-lack t i at (c ∷ cs) [] are = tt
cells-lack t i at (c ∷ cs) (value ∷ values) are = or-lacks _ _ (cell-lacks t i at c value are.0) (cells-lack t i (at + 1) cs values are.1)

duplicate-lacks : (fresh : Bool) (t : Table) (i : ℕ) (row : List Value) (rows : List StoredRow) → FaultLacks (duplicate_fault fresh t i row rows)
duplicate-lacks false t i row rows = tt
duplicate-lacks true t i row rows = map-lacks (λ s. error.Duplicate i s.tx) (stored_at t rows (key_of t row)) (λ s. tt)

unique-lacks : (history : List Transaction) (t : Table) (i : ℕ) (row : List Value) (rows : List StoredRow) (index : SqlIndex) → FaultLacks (unique_fault history t i row rows index)
unique-lacks history t i row rows index =
    either-way FaultLacks index.unique _ None (map-lacks (λ s. error.Unique i index.iid (entry_number history t index s)) (row_met t index row rows) (λ s. tt)) tt

row-lacks : (history : List Transaction) (fresh : Bool) (t : Table) (indexes : List SqlIndex) (i : ℕ) (row : List Value) (rows : List StoredRow) → AreNamed t.columns
    → FaultLacks (row_fault history fresh t indexes i row rows)
row-lacks history fresh t indexes i row rows are =
    or-lacks _ _ (cells-lack t i 0 t.columns row are)
    (or-lacks _ _ (either-way FaultLacks (list_any (is_long 1024) (all_written t indexes row)) (Some (error.KeyLong i)) None tt tt)
    (or-lacks _ _ (either-way FaultLacks (nat_lt 4096 (length (row_text row))) (Some (error.RowLong i)) None tt tt)
    (or-lacks _ _ (duplicate-lacks fresh t i row rows)
    (first-lacks (λ index. ⊤) (unique_fault history t i row rows) indexes (λ index _. unique-lacks history t i row rows index) (always indexes)))))

rows-lack : (history : List Transaction) (fresh : Bool) (t : Table) (indexes : List SqlIndex) (i : ℕ) (rows : List (List Value)) (work : Work) → AreNamed t.columns
    → AnswerLacks (write_rows history fresh t indexes i rows work)
rows-lack history fresh t indexes i [] work are = tt
rows-lack history fresh t indexes i (row ∷ rows) work are =
    answer-or (row_fault history fresh t indexes i row work.rows) _ (row-lacks history fresh t indexes i row work.rows are)
    (rows-lack history fresh t indexes (i + 1) rows (write_row t indexes row work) are)

placed-lacks : (n : ℕ) (t : Table) (indexes : List SqlIndex) (written : List Written) → AnswerLacks (placed n t indexes written)
placed-lacks n t indexes written = either-way AnswerLacks (nat_lt most_entries (length (marked t written))) (Err (error.TooMany (length (marked t written)))) _ tt tt

inserted-lacks : (history : List Transaction) (fresh : Bool) (s : Insertion) (t : Table) (indexes : List SqlIndex) (rows : List StoredRow) → IsInsertion s → IsTable t
    → AnswerLacks (inserted history fresh s t indexes rows)
inserted-lacks history fresh s t indexes rows is table =
    answer-or (insertion_fault t s) _
    (or-lacks _ _ (columns-lack (table_names t) s.columns is.columns) (or-lacks _ _ (names-once s.columns is.columns) (count-lacks 0 (length s.columns) s.rows)))
    (then-lacks (write_rows history fresh t indexes 0 (map (row_given t s.columns) s.rows) (record { rows = rows; written = [] }))
    (λ work. placed (length history) t indexes work.written)
    (rows-lack history fresh t indexes 0 (map (row_given t s.columns) s.rows) (record { rows = rows; written = [] }) (named t table))
    (λ work. placed-lacks (length history) t indexes work.written))

erased-lacks : (history : List Transaction) (s : Delete) (t : Table) (indexes : List SqlIndex) (rows : List StoredRow) → IsDeleteStatement s → AnswerLacks (erased history s t indexes rows)
erased-lacks history s t indexes rows is =
    answer-or (filter_fault (scope_of t false) s.filter) _ (filter-lacks false (scope_of t false) s.filter is.filter)
    (either-way AnswerLacks (nat_eq (length (rows_met t s rows)) 0) (Ok out.Nothing) (placed (length history) t indexes (rows_dropped t indexes (rows_met t s rows)))
    tt (placed-lacks (length history) t indexes (rows_dropped t indexes (rows_met t s rows))))

write-lacks : (history : List Transaction) (table : List ℕ) (answered : Table → List SqlIndex → List StoredRow → Result SqlOut SqlError) (answer : Result SqlOut SqlError) → IsName table
    → ((t : Table) (indexes : List SqlIndex) (rows : List StoredRow) → IsTable t → AnswerLacks (answered t indexes rows)) → WriteIs history table answered answer → AnswerLacks answer
write-lacks history table answered answer is each said =
    by-table history table said.0 (answer ≡ Err (error.NoTable table)) _ answer
    (λ e. is-answer answer _ e (name-lacks table is))
    (λ t found made. is-answer answer _ made.2.2 (each t made.0 made.2.0 found)) said.1 said.2

-- ---- SELECT

shown-lacks : (scope : List Nameable) (columns : Option (List (List ℕ))) → IsColumnList columns → FaultLacks (shown_fault scope columns)
shown-lacks scope None is = tt
shown-lacks scope (Some names) is =
    first-lacks (IsColumnName true) (name_fault scope) names (λ name. named-lacks true scope name) (recursion_from_All (IsColumnName true) names is.1)

select-fault-lacks : (scope : List Nameable) (s : Select) → IsSelect s → FaultLacks (select_fault scope s)
select-fault-lacks scope s is =
    or-lacks _ _ (shown-lacks scope s.columns is.columns)
    (or-lacks _ _ (filter-lacks true scope s.filter is.filter)
    (first-lacks (λ term. IsColumnName true term.column) (λ term. name_fault scope term.column) s.order (λ term. named-lacks true scope term.column)
    (recursion_from_All (λ term. IsColumnName true term.column) s.order is.order)))

at-lacks : (history : List Transaction) (s : Select) (t : Table) (n : ℕ) (answer : Result SqlOut SqlError) → SelectAt history s t n answer → AnswerLacks answer
at-lacks history s t n answer (inl said) = is-answer answer _ said.1 tt
at-lacks history s t n answer (inr said) = is-answer answer _ said.1.2 tt

select-lacks : (history : List Transaction) (s : Select) (answer : Result SqlOut SqlError) → IsSelect s → SelectIs history s answer → AnswerLacks answer
select-lacks history s answer is said =
    by-table (take (number_named (length history) s.period) history) s.table said.0 (answer ≡ Err (error.NoTable s.table)) (λ t. SelectOf history s t answer) answer
    (λ e. is-answer answer _ e (name-lacks s.table is.table))
    (λ t table. by-fault (select_fault (scope_of t s.history) s) _ answer (select-fault-lacks (scope_of t s.history) s is)
    (at-lacks history s t (number_read (length history) s.period) answer)) said.1 said.2

pub answer-lacks : (history : List Transaction) (said : Form) (answer : Result SqlOut SqlError) → IsStatement said → AnswerIs history said answer → AnswerLacks answer
answer-lacks history (form.CreateTable c) answer is told = create-lacks history c answer is told
answer-lacks history (form.CreateIndex c) answer is told = index-lacks history c answer is told
answer-lacks history (form.Upsert s) answer is told = write-lacks history s.table (inserted history false s) answer is.table (λ t indexes rows. inserted-lacks history false s t indexes rows is) told
answer-lacks history (form.Insert s) answer is told = write-lacks history s.table (inserted history true s) answer is.table (λ t indexes rows. inserted-lacks history true s t indexes rows is) told
answer-lacks history (form.Delete s) answer is told = write-lacks history s.table (erased history s) answer is.table (λ t indexes rows table. erased-lacks history s t indexes rows is) told
answer-lacks history (form.Select s) answer is told = select-lacks history s answer is told
