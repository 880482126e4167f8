-- A name has at most one table, a table at most one list of indexes, and a statement at most one answer.
use Rattle.std.proofs.Common.{◌≡◌, ◌≤◌, ◌<◌, ◌^◌, inl, inr, ℕ, Bool, true, false, true≢false, List, [], ◌∷◌, length, map, take, Option, Some, None, MatchOption, Result, Ok, Err, refl, sym, ap, ap₂, ◌∙◌, subst, if◌then◌else◌, arith}
use Rattle.std.specs.List.{AllZip}
use Rattle.std.specs.Option.{option_or}
use Rattle.im_octet.specs.Fields.{field4}
use Rattle.im_model.specs.declared.transactions.Transaction.{Transaction}
use Rattle.im_versions.specs.declared.versions.Version.{Version}
use Rattle.im_versions.proofs.VersionLemmas.{scan-unique}
use Rattle.im_sqltype.specs.declared.values.Value.{Value}
use Rattle.im_sqlparse.specs.declared.statements.CreateTable.{CreateTable}
use Rattle.im_sqlparse.specs.declared.statements.CreateIndex.{CreateIndex}
use Rattle.im_sqlparse.specs.declared.statements.Select.{Select}
use Rattle.im_sqlparse.specs.declared.statements.Form.{Form}
use Rattle.im_sqlparse.specs.declared.statements.Form.TheVariants as form
use Rattle.im_sqlmodel.specs.Keys.{tables_key, table_key, index_prefix, index_key}
use Rattle.im_sqlmodel.specs.Tables.{IsTable, table_names, table_text, index_text}
use Rattle.im_sqlmodel.specs.Rows.{CountIs, TableIs, IsIndexVersion, IndexesAre, RowsAre}
use Rattle.im_sqlmodel.specs.Conditions.{scope_of}
use Rattle.im_sqlmodel.specs.Selects.{number_read, number_named, select_fault, selected, SourceIs, SelectAt, SelectOf, SelectIs}
use Rattle.im_sqlmodel.specs.Creations.{asked_since, create_fault, table_written, column_fault, twice_fault, index_answer, CreateTableOf, CreateTableIs, CreateIndexOf, CreateIndexIs}
use Rattle.im_sqlmodel.specs.Writes.{inserted, erased, WriteIs}
use Rattle.im_sqlmodel.specs.Answers.{AnswerIs}
use Rattle.im_sqlmodel.specs.declared.answers.SqlError.{SqlError}
use Rattle.im_sqlmodel.specs.declared.answers.SqlError.TheVariants as error
use Rattle.im_sqlmodel.specs.declared.answers.SqlOut.{SqlOut}
use Rattle.im_sqlmodel.specs.declared.answers.SqlOut.TheVariants as out
use Rattle.im_sqlmodel.specs.declared.rows.StoredRow.{StoredRow}
use Rattle.im_sqlmodel.specs.declared.tables.SqlIndex.{SqlIndex}
use Rattle.im_sqlmodel.specs.declared.tables.Table.{Table}
use Rattle.im_octet.proofs.FieldLemmas.{same-field4}
use Rattle.im_sqlmodel.proofs.OnceLemmas.{value-live, one-value, one-count, zip-same, one-list, one-history}
use Rattle.im_catalog.specs.Parts.{HasParts, HasIndexParts}
use Rattle.im_catalog.proofs.CutLemmas.{same-fronts}
use Rattle.im_catalog.proofs.TableLemmas.{one-table, table-read, one-index, columns-read}

-- ---- tables

pub one-found : (history : List Transaction) (name : List ℕ) (a b : Option Table) → TableIs history name a → TableIs history name b → a ≡ b
one-found history name None None x y = refl
one-found history name None (Some u) x y = absurd (true≢false (sym (value-live history (table_key name) (table_text u) y.2) ∙ x))
one-found history name (Some t) None x y = absurd (true≢false (sym (value-live history (table_key name) (table_text t) x.2) ∙ y))
one-found history name (Some t) (Some u) x y =
    let text : table_text t ≡ table_text u = one-value history (table_key name) (table_text t) (table_text u) x.2 y.2 in
    let has : HasParts name (table_text t) t = record { is = table-read t x.0; named = x.1; says = refl } in
    ap (λ (w : Table). Some w) (one-table name (table_text t) t u has (table-read u y.0) y.1 text)

-- ---- indexes

iid-told : (tid m n : ℕ) → m < 2 ^ 32 → n < 2 ^ 32 → index_key tid m ≡ index_key tid n → m ≡ n
iid-told tid m n p q e = same-field4 m n p q (same-fronts (index_prefix tid) (index_prefix tid) (field4 m) (field4 n) refl e).1

pub one-index-version : (t : Table) → IsTable t → (v : Version) (i j : SqlIndex) → IsIndexVersion t v i → IsIndexVersion t v j → i ≡ j
one-index-version t is v i j x y =
    let iid : i.iid ≡ j.iid = iid-told t.tid i.iid j.iid x.0.iid.1 y.0.iid.1 (sym x.1 ∙ y.1) in
    let has : HasIndexParts i.iid (index_text i) i = record { columns = columns-read (length t.columns) i.columns is.few x.0.columns; numbered = refl; says = refl } in
    one-index i.iid (index_text i) i j has (columns-read (length t.columns) j.columns is.few y.0.columns) (sym iid) (sym x.2 ∙ y.2)

pub one-indexes : (history : List Transaction) (t : Table) (a b : List SqlIndex) → IsTable t → IndexesAre history t a → IndexesAre history t b → a ≡ b
one-indexes history t a b is x y =
    let same : x.0 ≡ y.0 = scan-unique history (index_prefix t.tid) x.0 y.0 x.1 y.1 in
    zip-same (IsIndexVersion t) (one-index-version t is) y.0 a b (subst (λ (shown : List Version). AllZip (IsIndexVersion t) shown a) same x.2) y.2

-- ---- answers

abbrev pub Answer : Type 0
Answer = Result SqlOut SqlError

-- two answers of which this holds are one
abbrev pub AtMostOne : (Answer → Type 0) → Type 0
AtMostOne P = (a b : Answer) → P a → P b → a ≡ b

exact : (answer : Answer) → AtMostOne (λ a. a ≡ answer)
exact answer a b x y = x ∙ sym y

by-choice : {A : Type 0} (P : Answer → Type 0) (Q : A → Answer → Type 0) (o : Option A) → AtMostOne P → ((x : A) → AtMostOne (Q x))
    → AtMostOne (λ a. MatchOption o (P a) (λ x. Q x a))
by-choice P Q None p q a b x y = p a b x y
by-choice P Q (Some z) p q a b x y = q z a b x y

-- over what a name has
by-found : (history : List Transaction) (name : List ℕ) (Q : Option Table → Answer → Type 0) → ((found : Option Table) → TableIs history name found → AtMostOne (Q found))
    → AtMostOne (λ a. (found : Option Table) × TableIs history name found × Q found a)
by-found history name Q one a b x y =
    let same : x.0 ≡ y.0 = one-found history name x.0 y.0 x.1 y.1 in
    one y.0 y.1 a b (subst (λ (found : Option Table). Q found a) same x.2) y.2

-- CREATE TABLE

abbrev table_answer : List Transaction → CreateTable → ℕ → Answer
table_answer history c count = Ok (out.Write (asked_since (length history) (table_written count c) (tables_key ∷ table_key c.table ∷ [])))

abbrev CountedAnswer : List Transaction → CreateTable → Answer → Type 0
CountedAnswer history c answer = (count : ℕ) × CountIs history count × (answer ≡ table_answer history c count)

counted : (history : List Transaction) (c : CreateTable) → AtMostOne (CountedAnswer history c)
counted history c a b x y = x.2 ∙ ap (table_answer history c) (one-count history x.0 y.0 x.1 y.1) ∙ sym y.2

create-table-of : (history : List Transaction) (c : CreateTable) → AtMostOne (CreateTableOf history c)
create-table-of history c = by-choice (CountedAnswer history c) (λ (fault : SqlError) a. a ≡ Err fault) (create_fault c) (counted history c) (λ fault. exact (Err fault))

abbrev there_answer : CreateTable → Answer
there_answer c = if c.if_not_exists then Ok out.Nothing else Err (error.Exists c.table)

create-table : (history : List Transaction) (c : CreateTable) → AtMostOne (CreateTableIs history c)
create-table history c =
    by-found history c.table (λ found a. MatchOption found (CreateTableOf history c a) (λ _. a ≡ there_answer c))
    (λ found is. by-choice (CreateTableOf history c) (λ (t : Table) a. a ≡ there_answer c) found (create-table-of history c) (λ t. exact (there_answer c)))

-- CREATE INDEX

abbrev IndexedAnswer : List Transaction → CreateIndex → Table → Answer → Type 0
IndexedAnswer history c t answer =
    (rows : List StoredRow) × RowsAre history t rows × ((indexes : List SqlIndex) × IndexesAre history t indexes
    × (answer ≡ index_answer history c t (length indexes) rows))

indexed : (history : List Transaction) (c : CreateIndex) (t : Table) → IsTable t → AtMostOne (IndexedAnswer history c t)
indexed history c t is a b x y =
    let rows : x.0 ≡ y.0 = one-list history t x.0 y.0 x.1 y.1 in
    let indexes : x.2.0 ≡ y.2.0 = one-indexes history t x.2.0 y.2.0 is x.2.1 y.2.1 in
    x.2.2 ∙ ap₂ (λ (others : List SqlIndex) (found : List StoredRow). index_answer history c t (length others) found) indexes rows ∙ sym y.2.2

abbrev index_fault : CreateIndex → Table → Option SqlError
index_fault c t = option_or (column_fault (table_names t) c.columns) (twice_fault c.columns)

create-index-found : (history : List Transaction) (c : CreateIndex) (found : Option Table) → TableIs history c.table found
    → AtMostOne (λ a. MatchOption found (a ≡ Err (error.NoTable c.table)) (λ t. CreateIndexOf history c t a))
create-index-found history c None is a b x y = x ∙ sym y
create-index-found history c (Some t) is a b x y =
    by-choice (IndexedAnswer history c t) (λ (fault : SqlError) a. a ≡ Err fault) (index_fault c t) (indexed history c t is.0) (λ fault. exact (Err fault)) a b x y

create-index : (history : List Transaction) (c : CreateIndex) → AtMostOne (CreateIndexIs history c)
create-index history c =
    by-found history c.table (λ found a. MatchOption found (a ≡ Err (error.NoTable c.table)) (λ t. CreateIndexOf history c t a)) (create-index-found history c)

-- SELECT

one-source : (history : List Transaction) (t : Table) (is_history : Bool) (rows others : List (List Value)) → SourceIs history t is_history rows → SourceIs history t is_history others → rows ≡ others
one-source history t true rows others x y = one-history history t rows others x y
one-source history t false rows others x y = x.2 ∙ ap (λ (stored : List StoredRow). map (λ s. s.row) stored) (one-list history t x.0 y.0 x.1 y.1) ∙ sym y.2

abbrev rows_answer : Select → Table → List (List Value) → Answer
rows_answer s t rows = Ok (out.Rows (selected (scope_of t s.history) s rows))

select-at : (history : List Transaction) (s : Select) (t : Table) (n : ℕ) → AtMostOne (SelectAt history s t n)
select-at history s t n a b (inl x) (inl y) = x.1 ∙ sym y.1
select-at history s t n a b (inl x) (inr y) = absurd (let no : ⊥ = (let less : length history < n = x.0 in let most : n ≤ length history = y.0 in omega (arith, less, most)) in no)
select-at history s t n a b (inr x) (inl y) = absurd (let no : ⊥ = (let less : length history < n = y.0 in let most : n ≤ length history = x.0 in omega (arith, less, most)) in no)
select-at history s t n a b (inr x) (inr y) =
    x.1.2 ∙ ap (rows_answer s t) (one-source (take n history) t s.history x.1.0 y.1.0 x.1.1 y.1.1) ∙ sym y.1.2

select-of : (history : List Transaction) (s : Select) (t : Table) → AtMostOne (SelectOf history s t)
select-of history s t =
    by-choice (SelectAt history s t (number_read (length history) s.period)) (λ (fault : SqlError) a. a ≡ Err fault) (select_fault (scope_of t s.history) s)
    (select-at history s t (number_read (length history) s.period)) (λ fault. exact (Err fault))

select : (history : List Transaction) (s : Select) → AtMostOne (SelectIs history s)
select history s =
    by-found (take (number_named (length history) s.period) history) s.table (λ found a. MatchOption found (a ≡ Err (error.NoTable s.table)) (λ t. SelectOf history s t a))
    (λ found is. by-choice (λ a. a ≡ Err (error.NoTable s.table)) (λ (t : Table) a. SelectOf history s t a) found (exact (Err (error.NoTable s.table))) (λ t. select-of history s t))

-- INSERT, UPSERT, DELETE

abbrev WrittenAnswer : List Transaction → Table → (List SqlIndex → List StoredRow → Answer) → Answer → Type 0
WrittenAnswer history t answered answer =
    (indexes : List SqlIndex) × IndexesAre history t indexes × ((rows : List StoredRow) × RowsAre history t rows × (answer ≡ answered indexes rows))

written : (history : List Transaction) (t : Table) (answered : List SqlIndex → List StoredRow → Answer) → IsTable t → AtMostOne (WrittenAnswer history t answered)
written history t answered is a b x y =
    let indexes : x.0 ≡ y.0 = one-indexes history t x.0 y.0 is x.1 y.1 in
    let rows : x.2.0 ≡ y.2.0 = one-list history t x.2.0 y.2.0 x.2.1 y.2.1 in
    x.2.2 ∙ ap₂ answered indexes rows ∙ sym y.2.2

write-found : (history : List Transaction) (table : List ℕ) (answered : Table → List SqlIndex → List StoredRow → Answer) (found : Option Table) → TableIs history table found
    → AtMostOne (λ a. MatchOption found (a ≡ Err (error.NoTable table)) (λ t. WrittenAnswer history t (answered t) a))
write-found history table answered None is a b x y = x ∙ sym y
write-found history table answered (Some t) is a b x y = written history t (answered t) is.0 a b x y

write : (history : List Transaction) (table : List ℕ) (answered : Table → List SqlIndex → List StoredRow → Answer) → AtMostOne (WriteIs history table answered)
write history table answered =
    by-found history table (λ found a. MatchOption found (a ≡ Err (error.NoTable table)) (λ t. WrittenAnswer history t (answered t) a)) (write-found history table answered)

pub one-answer : (history : List Transaction) (said : Form) → AtMostOne (AnswerIs history said)
one-answer history (form.CreateTable c) = create-table history c
one-answer history (form.CreateIndex c) = create-index history c
one-answer history (form.Upsert s) = write history s.table (inserted history false s)
one-answer history (form.Insert s) = write history s.table (inserted history true s)
one-answer history (form.Delete s) = write history s.table (erased history s)
one-answer history (form.Select s) = select history s
