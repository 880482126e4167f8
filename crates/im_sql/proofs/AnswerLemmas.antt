-- Answers of statements, by what the table of their name is.
use Rattle.std.proofs.Common.{◌≡◌, ◌≤◌, ◌+◌, ◌⊎◌, inl, inr, ℕ, Bool, true, false, not, List, [], ◌∷◌, length, map, nat_eq, Option, Some, None, MatchOption, Result, Ok, Err, refl, sym, ap, ap₂, ◌∙◌, subst, if◌then◌else◌}
use Rattle.std.proofs.lemmas.Bool.{le-ltb}
use Rattle.std.specs.Option.{option_or}
use Rattle.std.specs.Prelude.{IsErrAnd}
use Rattle.im_model.specs.declared.transactions.Transaction.{Transaction}
use Rattle.im_sqlparse.specs.declared.statements.CreateIndex.{CreateIndex}
use Rattle.im_sqlparse.specs.declared.statements.CreateTable.{CreateTable}
use Rattle.im_sqlparse.specs.declared.statements.Delete.{Delete}
use Rattle.im_sqlparse.specs.declared.statements.Insertion.{Insertion}
use Rattle.im_sqlmodel.specs.Creations.{asked_since, column_fault, twice_fault, create_fault, table_written, index_made, index_written, index_answer, CreateTableOf, CreateTableIs, CreateIndexOf, CreateIndexIs}
use Rattle.im_sqlmodel.specs.Conditions.{scope_of, filter_fault}
use Rattle.im_sqlmodel.specs.Kept.{IsSqlSound}
use Rattle.im_sqlmodel.specs.Keys.{tables_key, table_key, index_key, mark_key}
use Rattle.im_sqlmodel.specs.Options.{by_option, ok_then}
use Rattle.im_sqlmodel.specs.Rows.{CountIs, TableIs, IndexesAre, RowsAre}
use Rattle.im_sqlmodel.specs.Tables.{table_names}
use Rattle.im_sqlmodel.specs.Writes.{WriteIs, Work, write_rows, row_given, insertion_fault, inserted, marked, guarded, placed, rows_met, rows_dropped, erased}
use Rattle.im_sqlmodel.specs.declared.answers.SqlError.{SqlError}
use Rattle.im_sqlmodel.specs.declared.answers.SqlError.TheVariants as error
use Rattle.im_sqlmodel.specs.declared.answers.SqlOut.TheVariants as out
use Rattle.im_sqlmodel.specs.declared.rows.StoredRow.{StoredRow}
use Rattle.im_sqlmodel.specs.declared.tables.SqlIndex.{SqlIndex}
use Rattle.im_sqlmodel.specs.declared.tables.Table.{Table}
use Rattle.im_sqlmodel.specs.declared.written.Written.{Written}
use Rattle.im_catalog.proofs.OneLemmas.{Answer}
use Rattle.im_catalog.proofs.ThereLemmas.{table-of, rows-are, indexes-are}
use Rattle.im_sql.specs.Working.{written_of}
use Rattle.im_sql.specs.Writing.{Answers}
use Rattle.im_sql.proofs.PutLemmas.{put-unguarded}

-- memory ran out, or this holds
abbrev pub Or_short : Answer → Type 0 → Type 0
Or_short answer holds = (answer ≡ Err error.Memory) ⊎ holds

-- ---- rows that are written

pub write-none : (history : List Transaction) (name : List ℕ) (answered : Table → List SqlIndex → List StoredRow → Answer) (answer : Answer)
    → TableIs history name None → answer ≡ Err (error.NoTable name) → WriteIs history name answered answer
write-none history name answered answer is e = (None, is, e)

pub write-some : (history : List Transaction) (name : List ℕ) (t : Table) (answered : Table → List SqlIndex → List StoredRow → Answer) (answer : Answer) → IsSqlSound history
    → TableIs history name (Some t) → ((indexes : List SqlIndex) (rows : List StoredRow) → IndexesAre history t indexes → RowsAre history t rows → Or_short answer (answer ≡ answered t indexes rows))
    → Or_short answer (WriteIs history name answered answer)
write-some history name t answered answer sound is told =
    let indexes = indexes-are history t sound (table-of history name t is) in
    let rows = rows-are history t sound (table-of history name t is) in
    elim (told indexes.0 rows.0 indexes.1 rows.1) [
      | inl short ↦ inl short
      | inr e ↦ inr (Some t, is, (indexes.0, indexes.1, (rows.0, rows.1, e)))
    ]

-- ---- CREATE

pub create-some : (history : List Transaction) (c : CreateTable) (t : Table) (answer : Answer) → TableIs history c.table (Some t)
    → answer ≡ (if c.if_not_exists then Ok out.Nothing else Err (error.Exists c.table)) → CreateTableIs history c answer
create-some history c t answer is e = (Some t, is, e)

pub create-none : (history : List Transaction) (c : CreateTable) (answer : Answer) → TableIs history c.table None → Or_short answer (CreateTableOf history c answer)
    → Or_short answer (CreateTableIs history c answer)
create-none history c answer is (inl short) = inl short
create-none history c answer is (inr told) = inr (None, is, told)

pub index-none : (history : List Transaction) (c : CreateIndex) (answer : Answer) → TableIs history c.table None → answer ≡ Err (error.NoTable c.table) → CreateIndexIs history c answer
index-none history c answer is e = (None, is, e)

pub index-some : (history : List Transaction) (c : CreateIndex) (t : Table) (answer : Answer) → TableIs history c.table (Some t) → Or_short answer (CreateIndexOf history c t answer)
    → Or_short answer (CreateIndexIs history c answer)
index-some history c t answer is (inl short) = inl short
index-some history c t answer is (inr told) = inr (Some t, is, told)

abbrev pub refused : SqlError → Answer
refused fault = Err fault

-- what is wrong with it is its answer
pub create-fault : (history : List Transaction) (c : CreateTable) (fault : SqlError) → Some fault ≡ create_fault c → CreateTableOf history c (refused fault)
create-fault history c fault e =
    subst (λ (o : Option SqlError). MatchOption o ((count : ℕ) × CountIs history count × (refused fault ≡ Ok (out.Write (asked_since (length history) (table_written count c) (tables_key ∷ table_key c.table ∷ [])))))
    (λ (f : SqlError). refused fault ≡ refused f)) e refl

abbrev asked : ℕ → List Written → List (List ℕ) → Answer
asked n written keys = Ok (out.Write (asked_since n written keys))

-- else the table and its number are asked for
pub create-asked : (history : List Transaction) (c : CreateTable) (count n : ℕ) (written : List Written) (keys : List (List ℕ)) (answer : Answer) → None ≡ create_fault c → CountIs history count → length history ≡ n
    → written ≡ table_written count c → keys ≡ tables_key ∷ table_key c.table ∷ [] → Answers answer (asked n written keys) → Or_short answer (CreateTableOf history c answer)
create-asked history c count n written keys answer none counts counted same_written same_keys (inl short) = inl short
create-asked history c count n written keys answer none counts counted same_written same_keys (inr e) =
    inr (subst (λ (o : Option SqlError). MatchOption o ((k : ℕ) × CountIs history k × (answer ≡ asked (length history) (table_written k c) (tables_key ∷ table_key c.table ∷ [])))
    (λ (f : SqlError). answer ≡ refused f)) none
    (count, counts, e ∙ ap₂ (asked n) same_written same_keys ∙ ap (λ (m : ℕ). asked m (table_written count c) (tables_key ∷ table_key c.table ∷ [])) (sym counted)))

pub index-fault : (history : List Transaction) (c : CreateIndex) (t : Table) (fault : SqlError) → Some fault ≡ option_or (column_fault (table_names t) c.columns) (twice_fault c.columns)
    → CreateIndexOf history c t (refused fault)
index-fault history c t fault e =
    subst (λ (o : Option SqlError). MatchOption o ((rows : List StoredRow) × RowsAre history t rows × ((indexes : List SqlIndex) × IndexesAre history t indexes × (refused fault ≡ index_answer history c t (length indexes) rows)))
    (λ (f : SqlError). refused fault ≡ refused f)) e refl

-- by the table's rows and indexes
pub index-told : (history : List Transaction) (c : CreateIndex) (t : Table) (rows : List StoredRow) (indexes : List SqlIndex) (answer : Answer)
    → None ≡ option_or (column_fault (table_names t) c.columns) (twice_fault c.columns) → RowsAre history t rows → IndexesAre history t indexes → answer ≡ index_answer history c t (length indexes) rows
    → CreateIndexOf history c t answer
index-told history c t rows indexes answer none all are e =
    subst (λ (o : Option SqlError). MatchOption o ((found : List StoredRow) × RowsAre history t found × ((those : List SqlIndex) × IndexesAre history t those × (answer ≡ index_answer history c t (length those) found)))
    (λ (f : SqlError). answer ≡ refused f)) none (rows, all, (indexes, are, e))

-- a table with rows takes none
pub index-rows : (history : List Transaction) (c : CreateIndex) (t : Table) (count : ℕ) (rows : List StoredRow) → true ≡ not (nat_eq (length rows) 0) → refused (error.HasRows c.table) ≡ index_answer history c t count rows
index-rows history c t count rows e = by-test (nat_eq (length rows) 0) e
  where
    by-test : (b : Bool) → true ≡ not b → refused (error.HasRows c.table) ≡ (if b then Ok (out.Write (asked_since (length history) (index_written t (index_made count t c)) (index_key t.tid (count + 1) ∷ mark_key t.tid ∷ []))) else Err (error.HasRows c.table))
    by-test true f = absurd (let no : ⊥ = cc in no)
    by-test false f = refl

pub index-asked : (history : List Transaction) (c : CreateIndex) (t : Table) (count n : ℕ) (rows : List StoredRow) (written : List Written) (keys : List (List ℕ)) (answer : Answer) → false ≡ not (nat_eq (length rows) 0)
    → length history ≡ n → written ≡ index_written t (index_made count t c) → keys ≡ index_key t.tid (count + 1) ∷ mark_key t.tid ∷ [] → Answers answer (asked n written keys)
    → Or_short answer (answer ≡ index_answer history c t count rows)
index-asked history c t count n rows written keys answer none counted same_written same_keys (inl short) = inl short
index-asked history c t count n rows written keys answer none counted same_written same_keys (inr e) =
    inr (e ∙ ap₂ (asked n) same_written same_keys
    ∙ ap (λ (m : ℕ). asked m (index_written t (index_made count t c)) (index_key t.tid (count + 1) ∷ mark_key t.tid ∷ [])) (sym counted) ∙ by-test (nat_eq (length rows) 0) none)
  where
    by-test : (b : Bool) → false ≡ not b → asked (length history) (index_written t (index_made count t c)) (index_key t.tid (count + 1) ∷ mark_key t.tid ∷ [])
        ≡ (if b then Ok (out.Write (asked_since (length history) (index_written t (index_made count t c)) (index_key t.tid (count + 1) ∷ mark_key t.tid ∷ []))) else Err (error.HasRows c.table))
    by-test true f = refl
    by-test false f = absurd (let no : ⊥ = cc in no)

pub or-told : (history : List Transaction) (c : CreateIndex) (t : Table) (rows : List StoredRow) (indexes : List SqlIndex) (answer : Answer)
    → None ≡ option_or (column_fault (table_names t) c.columns) (twice_fault c.columns) → RowsAre history t rows → IndexesAre history t indexes
    → Or_short answer (answer ≡ index_answer history c t (length indexes) rows) → Or_short answer (CreateIndexOf history c t answer)
or-told history c t rows indexes answer none all are (inl short) = inl short
or-told history c t rows indexes answer none all are (inr e) = inr (index-told history c t rows indexes answer none all are e)

-- ---- rows that are inserted

abbrev begun : List StoredRow → Work
begun rows = record { rows = rows; written = [] }

module _ (history : List Transaction) (fresh : Bool) (s : Insertion) (t : Table) (indexes : List SqlIndex) (rows : List StoredRow) where
  -- what all rows write
  abbrev pub all_rows : Result Work SqlError
  all_rows = write_rows history fresh t indexes 0 (map (row_given t s.columns) s.rows) (begun rows)

  pub inserted-fault : (fault : SqlError) → Some fault ≡ insertion_fault t s → Answers (Err fault) (inserted history fresh s t indexes rows)
  inserted-fault fault e = inr (ap (λ (o : Option SqlError). by_option o (ok_then all_rows (λ work. placed (length history) t indexes work.written)) (λ f. Err f)) e)

  pub inserted-rows : (n : ℕ) (answer : Answer) → length history ≡ n → None ≡ insertion_fault t s → Answers answer (ok_then all_rows (λ work. placed n t indexes work.written))
      → Answers answer (inserted history fresh s t indexes rows)
  inserted-rows n answer counted none (inl short) = inl short
  inserted-rows n answer counted none (inr e) =
      inr (e ∙ ap (λ (m : ℕ). ok_then all_rows (λ work. placed m t indexes work.written)) (sym counted)
      ∙ ap (λ (o : Option SqlError). by_option o (ok_then all_rows (λ work. placed (length history) t indexes work.written)) (λ f. Err f)) none)

abbrev pub taken_all : List Written → Result (List Written) SqlError
taken_all written = Ok written

abbrev pub taken_fault : SqlError → Result (List Written) SqlError
taken_fault fault = Err fault

-- what the rows write is placed
pub placed-after : (n : ℕ) (t : Table) (indexes : List SqlIndex) (r : Result Work SqlError) (writes : List Written) (answer : Answer) → taken_all writes ≡ written_of r
    → Answers answer (placed n t indexes writes) → Answers answer (ok_then r (λ work. placed n t indexes work.written))
placed-after n t indexes (Ok work) writes answer e told = (let same : writes ≡ work.written = cc in subst (λ (w : List Written). Answers answer (placed n t indexes w)) same told)
placed-after n t indexes (Err fault) writes answer e told = absurd (let no : ⊥ = cc in no)

-- what is wrong with a row is the answer
pub fault-after : (n : ℕ) (t : Table) (indexes : List SqlIndex) (r : Result Work SqlError) (fault : SqlError) → taken_fault fault ≡ written_of r
    → Answers (Err fault) (ok_then r (λ work. placed n t indexes work.written))
fault-after n t indexes (Ok work) fault e = absurd (let no : ⊥ = cc in no)
fault-after n t indexes (Err other) fault e = (let same : fault ≡ other = cc in inr (ap (λ (f : SqlError). Err f) same))

-- ---- rows that are deleted

abbrev erased_rows : ℕ → Table → List SqlIndex → List StoredRow → Answer
erased_rows n t indexes met = if nat_eq (length met) 0 then Ok out.Nothing else placed n t indexes (rows_dropped t indexes met)

pub erased-fault : (history : List Transaction) (s : Delete) (t : Table) (indexes : List SqlIndex) (rows : List StoredRow) (fault : SqlError) → Some fault ≡ filter_fault (scope_of t false) s.filter
    → Answers (Err fault) (erased history s t indexes rows)
erased-fault history s t indexes rows fault e = inr (ap (λ (o : Option SqlError). by_option o (erased_rows (length history) t indexes (rows_met t s rows)) (λ f. Err f)) e)

pub erased-met : (history : List Transaction) (s : Delete) (t : Table) (indexes : List SqlIndex) (rows met : List StoredRow) (n : ℕ) (answer : Answer) → length history ≡ n
    → None ≡ filter_fault (scope_of t false) s.filter → met ≡ rows_met t s rows → Answers answer (erased_rows n t indexes met) → Answers answer (erased history s t indexes rows)
erased-met history s t indexes rows met n answer counted none same (inl short) = inl short
erased-met history s t indexes rows met n answer counted none same (inr e) =
    inr (e ∙ ap (erased_rows n t indexes) same ∙ ap (λ (m : ℕ). erased_rows m t indexes (rows_met t s rows)) (sym counted)
    ∙ ap (λ (o : Option SqlError). by_option o (erased_rows (length history) t indexes (rows_met t s rows)) (λ f. Err f)) none)

-- ---- what is asked for

-- of what a statement writes, where it isn't too much
pub placed-within : (n : ℕ) (t : Table) (indexes : List SqlIndex) (writes written : List Written) (keys : List (List ℕ)) (answer : Answer) → length (marked t writes) ≤ 1024 → written ≡ marked t writes
    → keys ≡ guarded t indexes (marked t writes) → Answers answer (asked n written keys) → Answers answer (placed n t indexes writes)
placed-within n t indexes writes written keys answer few same_written same_keys (inl short) = inl short
placed-within n t indexes writes written keys answer few same_written same_keys (inr e) =
    let unmarked : guarded t indexes (marked t writes) ≡ guarded t indexes writes =
    ap (λ (ks : List (List ℕ)). index_key t.tid (length indexes + 1) ∷ ks) (put-unguarded (record { key = mark_key t.tid; value = Some [] }) writes refl) in
    inr (e ∙ ap₂ (asked n) same_written (same_keys ∙ unmarked)
    ∙ sym (ap (λ (b : Bool). if b then Err (error.TooMany (length (marked t writes))) else asked n (marked t writes) (guarded t indexes writes)) (le-ltb 1024 (length (marked t writes)) few)))

-- where a row is met, its deletion is placed
pub erased-some : (n : ℕ) (t : Table) (indexes : List SqlIndex) (rows : List StoredRow) (writes : List Written) (answer : Answer) → nat_eq (length rows) 0 ≡ false → writes ≡ rows_dropped t indexes rows
    → Answers answer (placed n t indexes writes) → Answers answer (erased_rows n t indexes rows)
erased-some n t indexes rows writes answer some whole (inl short) = inl short
erased-some n t indexes rows writes answer some whole (inr e) =
    inr (e ∙ ap (placed n t indexes) whole ∙ sym (ap (λ (b : Bool). if b then Ok out.Nothing else placed n t indexes (rows_dropped t indexes rows)) some))

-- ---- an error that is passed on

pub err-told : (r : Answer) (fault : SqlError) (wanted : Answer) → IsErrAnd r (λ e. e ≡ fault) → Answers (Err fault) wanted → Answers r wanted
err-told (Ok x) fault wanted is told = absurd is
err-told (Err e) fault wanted is told = subst (λ (f : SqlError). Answers (Err f) wanted) (sym is) told

pub short-told : (fault : SqlError) (wanted : Answer) → taken_fault fault ≡ Err error.Memory → Answers (Err fault) wanted
short-told fault wanted e = (let same : fault ≡ error.Memory = cc in inl (ap (λ (f : SqlError). Err f) same))
