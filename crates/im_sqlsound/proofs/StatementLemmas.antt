-- What a statement asks for keeps the keys SQL's, where it is placed behind a history that admits it.
use Rattle.std.proofs.Common.{◌≡◌, ◌≢◌, ◌≤◌, ◌+◌, inl, inr, ℕ, Bool, true, false, not, if◌then◌else◌, List, [], ◌∷◌, ◌++◌, length, take, map, filter, nat_eq, nat_lt, Option, Some, None, Result, Ok, Err, MatchOption, refl, sym, ap, ◌∙◌, subst}
use Rattle.std.proofs.lemmas.Bool.{leb-true}
use Rattle.std.proofs.lemmas.List.{length-take-le}
use Rattle.std.proofs.lemmas.List.Elements.{recursion_from_All}
use Rattle.std.specs.List.{AllByRecursion, IsAmong}
use Rattle.std.specs.Option.{option_or}
use Rattle.im_model.specs.History.{IsHistory}
use Rattle.im_model.specs.declared.transactions.Transaction.{Transaction}
use Rattle.im_model.proofs.HistoryLemmas.{IsHistory-take}
use Rattle.im_draft.specs.Drafts.{entry_of}
use Rattle.im_draft.specs.declared.preconditions.Pre.{Pre}
use Rattle.im_draft.specs.declared.preconditions.Pre.TheVariants.{Since}
use Rattle.im_versions.specs.Admits.{holds, Admits}
use Rattle.im_versions.specs.Versions.{last_version, last_number, is_written, IsBelow}
use Rattle.im_versions.proofs.ListLemmas.{All-among, among-first, among-rest}
use Rattle.im_versions.proofs.VersionLemmas.{below-strict}
use Rattle.im_tx.specs.Asked.{Asked}
use Rattle.im_sqltype.specs.declared.values.Value.{Value}
use Rattle.im_sqlparse.specs.Formed.{IsCreateTable, IsCreateIndex, IsInsertion, IsLiteralRow, IsStatement}
use Rattle.im_sqlparse.specs.declared.statements.CreateTable.{CreateTable}
use Rattle.im_sqlparse.specs.declared.statements.CreateIndex.{CreateIndex}
use Rattle.im_sqlparse.specs.declared.statements.Delete.{Delete}
use Rattle.im_sqlparse.specs.declared.statements.Form.{Form}
use Rattle.im_sqlparse.specs.declared.statements.Form.TheVariants as form
use Rattle.im_sqlparse.specs.declared.statements.Insertion.{Insertion}
use Rattle.im_sqlparse.specs.declared.statements.Select.{Select}
use Rattle.im_sqlmodel.specs.Answers.{AnswerIs}
use Rattle.im_sqlmodel.specs.Conditions.{scope_of, filter_fault, meets}
use Rattle.im_sqlmodel.specs.Creations.{draft_written, asked_since, column_fault, twice_fault, create_fault, table_made, table_written, index_made, index_written, index_answer, CreateTableOf, CreateTableIs, CreateIndexOf, CreateIndexIs}
use Rattle.im_sqlmodel.specs.Keys.{tables_key, table_key, index_key, mark_key}
use Rattle.im_sqlmodel.specs.Kept.{IsTableOf, IsSqlSound, IsSqlKept}
use Rattle.im_sqlmodel.specs.Options.{by_option, ok_then}
use Rattle.im_sqlmodel.specs.Rows.{IsLiveAs, CountIs, TableIs, IndexesAre, RowsAre}
use Rattle.im_sqlmodel.specs.Selects.{select_fault, selected, number_read, SelectAt, SelectOf, SelectIs}
use Rattle.im_sqlmodel.specs.Tables.{IsTableIndex, table_text, table_names}
use Rattle.im_sqlmodel.specs.Writes.{row_given, insertion_fault, write_rows, marked, is_guarded, guarded, most_entries, placed, inserted, rows_met, rows_dropped, erased, WriteIs, Work}
use Rattle.im_sqlmodel.specs.declared.answers.SqlError.{SqlError}
use Rattle.im_sqlmodel.specs.declared.answers.SqlError.TheVariants as error
use Rattle.im_sqlmodel.specs.declared.answers.SqlOut.TheVariants as out
use Rattle.im_sqlmodel.specs.declared.rows.StoredRow.{StoredRow}
use Rattle.im_sqlmodel.specs.declared.tables.SqlIndex.{SqlIndex}
use Rattle.im_sqlmodel.specs.declared.tables.Table.{Table}
use Rattle.im_sqlmodel.specs.declared.written.Written.{Written}
use Rattle.im_sqlmodel.proofs.KeptLemmas.{kept-sound}
use Rattle.im_catalog.proofs.OneLemmas.{Answer}
use Rattle.im_catalog.proofs.FrontLemmas.{among-kept}
use Rattle.im_sql.proofs.AnswerLemmas.{refused}
use Rattle.im_sql.specs.Writing.{written_at}
use Rattle.im_sqlsound.proofs.AmongLemmas.{among-map}
use Rattle.im_sqlmodel.proofs.CarriedLemmas.{taken-front, kept-push}
use Rattle.im_sql.proofs.CountLemmas.{count-few, indexes-few}
use Rattle.im_sql.proofs.CreateLemmas.{table-made, index-made}
use Rattle.im_sqlsound.proofs.HangLemmas.{nothing-of}
use Rattle.im_sql.proofs.NextLemmas.{Apart, numbered-of}
use Rattle.im_sql.proofs.ShortLemmas.{Below, put-rises}
use Rattle.im_sql.proofs.WorkLemmas.{index-of}
use Rattle.im_sqlsound.proofs.BehindLemmas.{Once}
use Rattle.im_sqlsound.proofs.CreatedLemmas.{created-sound}
use Rattle.im_sqlsound.proofs.GuardLemmas.{guarded-same}
use Rattle.im_sqlsound.proofs.HeldLemmas.{rewritten-first}
use Rattle.im_sqlsound.proofs.IndexedLemmas.{indexed-sound}
use Rattle.im_sqlsound.proofs.RowsKeptLemmas.{rows-sound}
use Rattle.im_sqlsound.proofs.StoodLemmas.{find-told}
use Rattle.im_sqlsound.proofs.WrittenLemmas.{AreTaken, rows-given, rows-taken, rows-gone}

-- ---- answers

abbrev asks : Asked → Answer
asks asked = Ok (out.Write asked)

abbrev nothing : Answer
nothing = Ok out.Nothing

asks-is : (a b : Asked) → asks a ≡ asks b → a ≡ b
asks-is a b e = cc

not-nothing : (a : Asked) → asks a ≡ nothing → ⊥
not-nothing a e = (let no : ⊥ = cc in no)

not-refused : (a : Asked) (fault : SqlError) → asks a ≡ refused fault → ⊥
not-refused a fault e = (let no : ⊥ = cc in no)

abbrev rows_read : List (List Value) → Answer
rows_read rows = Ok (out.Rows rows)

not-rows : (a : Asked) (rows : List (List Value)) → asks a ≡ rows_read rows → ⊥
not-rows a rows e = (let no : ⊥ = cc in no)

-- ---- preconditions

abbrev since : ℕ → List ℕ → Pre
since n key = Since key n

admitted : (history : List Transaction) (n : ℕ) (keys : List (List ℕ)) (key : List ℕ) → Admits history (map (since n) keys) → IsAmong keys key → last_number history key ≤ n
admitted history n keys key admits m =
    leb-true (last_number history key) n (All-among (λ (pre : Pre). holds history pre ≡ true) (map (since n) keys) (since n key) admits (among-map (since n) keys key m))

-- ---- keys, each once

once-below : (ws : List Written) → Apart Below ws → Once ws
once-below [] h = tt
once-below (w ∷ ws) h = (each ws h.0, once-below ws h.1)
  where
    each : (xs : List Written) → AllByRecursion (Below w) xs → AllByRecursion (λ (x : Written). w.key ≢ x.key) xs
    each [] all = tt
    each (x ∷ xs) all = (
      (λ same. (let itself : IsBelow x.key x.key = subst (λ (k : List ℕ). IsBelow k x.key) same all.0 in below-strict x.key x.key itself itself)),
      each xs all.1,
    )

-- a guarded key that is written is among those that are guarded
among-guarded : (t : Table) (indexes : List SqlIndex) (written : List Written) (key : List ℕ) → is_guarded key ≡ true → written_at written key ≢ None → IsAmong (guarded t indexes written) key
among-guarded t indexes written key guards some = by-written (written_at written key) refl
  where
    by-written : (o : Option (Option (List ℕ))) → written_at written key ≡ o → IsAmong (guarded t indexes written) key
    by-written None e = absurd (some e)
    by-written (Some value) e =
        let told = find-told key value written e in
        let m : IsAmong (map (λ (w : Written). w.key) written) key = subst (IsAmong (map (λ (w : Written). w.key) written)) (sym told.2) (among-map (λ (w : Written). w.key) written told.0 told.1) in
        among-rest (index_key t.tid (length indexes + 1)) (filter is_guarded (map (λ (w : Written). w.key) written)) key (among-kept is_guarded (map (λ (w : Written). w.key) written) key m guards)

module _ (history : List Transaction) (tx : Transaction) (n : ℕ) (is : IsHistory (history ++ tx ∷ [])) (kept : IsSqlKept history) (within : n ≤ length history) (asked : Asked)
    (admits : Admits history asked.pres) (writes : tx.entries ≡ asked.entries) where
  abbrev front : List Transaction
  front = take n history

  abbrev after : List Transaction
  after = history ++ tx ∷ []

  is_front : IsHistory front
  is_front = subst IsHistory (taken-front n history (tx ∷ []) within) (IsHistory-take after n is)

  long : length front ≡ n
  long = length-take-le n history within

  -- what is asked for names the keys that are as they were
  guard-low : (written : List Written) (keys : List (List ℕ)) → asked ≡ asked_since (length front) written keys → (key : List ℕ) → IsAmong keys key → last_number history key ≤ n
  guard-low written keys same key m =
      subst (λ (k : ℕ). last_number history key ≤ k) long (admitted history (length front) keys key (subst (λ (a : Asked). Admits history a.pres) same admits) m)

  written-so : (written : List Written) (keys : List (List ℕ)) → asked ≡ asked_since (length front) written keys → tx.entries ≡ map (λ (w : Written). entry_of (draft_written w)) written
  written-so written keys same = writes ∙ ap (λ (a : Asked). a.entries) same

  -- ---- CREATE TABLE

  counted-same : (count : ℕ) → last_version front tables_key ≡ last_version history tables_key → CountIs front count → CountIs history count
  counted-same count same (inl none) = inl (ap is_written (sym same) ∙ none.0, none.1)
  counted-same count same (inr some) = inr (some.0, (some.1.0, sym same ∙ some.1.1, some.1.2, some.1.3))

  table-made-sound : (c : CreateTable) (count : ℕ) → IsCreateTable c → create_fault c ≡ None → TableIs front c.table None → CountIs front count
      → asked ≡ asked_since (length front) (table_written count c) (tables_key ∷ table_key c.table ∷ []) → IsSqlSound after
  table-made-sound c count formed right absent counted same =
      let keys : List (List ℕ) = tables_key ∷ table_key c.table ∷ [] in
      let first = guarded-same history n tables_key (guard-low (table_written count c) keys same tables_key (among-first tables_key (table_key c.table ∷ []))) in
      let second = guarded-same history n (table_key c.table)
      (guard-low (table_written count c) keys same (table_key c.table) (among-rest tables_key (table_key c.table ∷ []) (table_key c.table) (among-first (table_key c.table) []))) in
      created-sound history tx (table_made count c) count (kept-sound history kept) (table-made count c (count-few front count is_front (kept n within) counted) formed right)
      (ap is_written (sym second) ∙ absent) (counted-same count first counted) refl (written-so (table_written count c) keys same)

  table-sound : (c : CreateTable) → IsCreateTable c → CreateTableIs front c (asks asked) → IsSqlSound after
  table-sound c formed answer = by-found answer.0 answer.1 answer.2
    where
      by-flag : (b : Bool) → asks asked ≡ (if b then nothing else refused (error.Exists c.table)) → ⊥
      by-flag true e = not-nothing asked e
      by-flag false e = not-refused asked (error.Exists c.table) e

      by-fault : (o : Option SqlError) → create_fault c ≡ o → TableIs front c.table None
          → MatchOption o ((count : ℕ) × CountIs front count × (asks asked ≡ asks (asked_since (length front) (table_written count c) (tables_key ∷ table_key c.table ∷ [])))) (λ fault. asks asked ≡ refused fault) → IsSqlSound after
      by-fault None right absent made =
          table-made-sound c made.0 formed right absent made.1 (asks-is asked (asked_since (length front) (table_written made.0 c) (tables_key ∷ table_key c.table ∷ [])) made.2)
      by-fault (Some fault) wrong absent told = absurd (not-refused asked fault told)

      by-found : (found : Option Table) → TableIs front c.table found
          → MatchOption found (CreateTableOf front c (asks asked)) (λ _. asks asked ≡ (if c.if_not_exists then nothing else refused (error.Exists c.table))) → IsSqlSound after
      by-found None absent told = by-fault (create_fault c) refl absent told
      by-found (Some t) there told = absurd (by-flag c.if_not_exists told)

  -- ---- a table that is there

  table-of : (name : List ℕ) (t : Table) → TableIs front name (Some t) → IsTableOf front t
  table-of name t there = (there.0, subst (λ (k : List ℕ). IsLiveAs front (table_key k) (table_text t)) (sym there.1) there.2)

  -- ---- CREATE INDEX

  index-asked-sound : (c : CreateIndex) (t : Table) (indexes : List SqlIndex) (rows : List StoredRow) → IsTableOf front t → IsCreateIndex c
      → option_or (column_fault (table_names t) c.columns) (twice_fault c.columns) ≡ None → RowsAre front t rows → IndexesAre front t indexes → nat_eq (length rows) 0 ≡ true
      → asked ≡ asked_since (length front) (index_written t (index_made (length indexes) t c)) (index_key t.tid (length indexes + 1) ∷ mark_key t.tid ∷ []) → IsSqlSound after
  index-asked-sound c t indexes rows of formed right all are empty same =
      let i : SqlIndex = index_made (length indexes) t c in
      let next : List ℕ = index_key t.tid (length indexes + 1) in
      let mark : List ℕ = mark_key t.tid in
      let keys : List (List ℕ) = next ∷ mark ∷ [] in
      indexed-sound history n kept within tx t indexes i of are (subst (RowsAre front t) (nothing-of rows empty) all) (index-made (length indexes) t c (indexes-few front t indexes is_front are) formed right) refl
      (guard-low (index_written t i) keys same next (among-first next (mark ∷ []))) (guard-low (index_written t i) keys same mark (among-rest next (mark ∷ []) mark (among-first mark [])))
      (written-so (index_written t i) keys same)

  index-sound : (c : CreateIndex) → IsCreateIndex c → CreateIndexIs front c (asks asked) → IsSqlSound after
  index-sound c formed answer = by-found answer.0 answer.1 answer.2
    where
      by-rows : (t : Table) (indexes : List SqlIndex) (rows : List StoredRow) → IsTableOf front t → option_or (column_fault (table_names t) c.columns) (twice_fault c.columns) ≡ None → RowsAre front t rows
          → IndexesAre front t indexes → (b : Bool) → nat_eq (length rows) 0 ≡ b
          → asks asked ≡ (if b then asks (asked_since (length front) (index_written t (index_made (length indexes) t c)) (index_key t.tid (length indexes + 1) ∷ mark_key t.tid ∷ [])) else refused (error.HasRows c.table))
          → IsSqlSound after
      by-rows t indexes rows of right all are true empty told =
          index-asked-sound c t indexes rows of formed right all are empty
          (asks-is asked (asked_since (length front) (index_written t (index_made (length indexes) t c)) (index_key t.tid (length indexes + 1) ∷ mark_key t.tid ∷ [])) told)
      by-rows t indexes rows of right all are false some told = absurd (not-refused asked (error.HasRows c.table) told)

      by-fault : (t : Table) → IsTableOf front t → (o : Option SqlError) → option_or (column_fault (table_names t) c.columns) (twice_fault c.columns) ≡ o
          → MatchOption o ((rows : List StoredRow) × RowsAre front t rows × ((indexes : List SqlIndex) × IndexesAre front t indexes × (asks asked ≡ index_answer front c t (length indexes) rows))) (λ fault. asks asked ≡ refused fault)
          → IsSqlSound after
      by-fault t of None right told = by-rows t told.2.0 told.0 of right told.1 told.2.1 (nat_eq (length told.0) 0) refl told.2.2
      by-fault t of (Some fault) wrong told = absurd (not-refused asked fault told)

      by-found : (found : Option Table) → TableIs front c.table found → MatchOption found (asks asked ≡ refused (error.NoTable c.table)) (λ t. CreateIndexOf front c t (asks asked)) → IsSqlSound after
      by-found None absent told = absurd (not-refused asked (error.NoTable c.table) told)
      by-found (Some t) there told = by-fault t (table-of c.table t there) (option_or (column_fault (table_names t) c.columns) (twice_fault c.columns)) refl told

  -- ---- INSERT, UPSERT and DELETE

  placed-sound : (t : Table) (indexes : List SqlIndex) (stood rows : List StoredRow) (written : List Written) → IsTableOf front t → IndexesAre front t indexes → RowsAre front t stood
      → AreTaken t indexes stood written rows → asks asked ≡ placed (length front) t indexes written → IsSqlSound after
  placed-sound t indexes stood rows written of are all taken told = by-count (nat_lt most_entries (length (marked t written))) told
    where
      by-asked : asked ≡ asked_since (length front) (marked t written) (guarded t indexes written) → IsSqlSound after
      by-asked same =
          rows-sound history n kept within tx t indexes stood rows written of are all
          (guard-low (marked t written) (guarded t indexes written) same (index_key t.tid (length indexes + 1))
          (among-first (index_key t.tid (length indexes + 1)) (filter is_guarded (map (λ (w : Written). w.key) written))))
          (λ key guards some. guard-low (marked t written) (guarded t indexes written) same key (among-guarded t indexes written key guards some))
          taken.0 taken.1.0 (once-below (marked t written) (put-rises (record { key = mark_key t.tid; value = Some [] }) written taken.1.1))
          (written-so (marked t written) (guarded t indexes written) same)

      by-count : (b : Bool) → asks asked ≡ (if b then refused (error.TooMany (length (marked t written))) else asks (asked_since (length front) (marked t written) (guarded t indexes written))) → IsSqlSound after
      by-count true e = absurd (not-refused asked (error.TooMany (length (marked t written))) e)
      by-count false e = by-asked (asks-is asked (asked_since (length front) (marked t written) (guarded t indexes written)) e)

  formed-of : (t : Table) (indexes : List SqlIndex) → IsTableOf front t → IndexesAre front t indexes → (i : SqlIndex) → IsAmong indexes i → IsTableIndex t i
  formed-of t indexes of are i m = (index-of front t indexes i of are m).1

  inserted-sound : (fresh : Bool) (s : Insertion) (t : Table) (indexes : List SqlIndex) (stood : List StoredRow) → IsInsertion s → IsTableOf front t → IndexesAre front t indexes → RowsAre front t stood
      → asks asked ≡ inserted front fresh s t indexes stood → IsSqlSound after
  inserted-sound fresh s t indexes stood formed of are all told =
      by-fault (insertion_fault t s) told
    where
      given : List (List Value)
      given = map (row_given t s.columns) s.rows

      by-work : (r : Result Work SqlError) → write_rows front fresh t indexes 0 (map (row_given t s.columns) s.rows) (record { rows = stood; written = [] }) ≡ r
          → asks asked ≡ ok_then r (λ work. placed (length front) t indexes work.written) → IsSqlSound after
      by-work (Ok work) e same =
          placed-sound t indexes stood work.rows work.written of are all
          (rows-taken front fresh t indexes stood of.0 (formed-of t indexes of are) (numbered-of front t indexes of are) 0 (map (row_given t s.columns) s.rows) (record { rows = stood; written = [] }) work
          (rows-given t s.columns s.rows (recursion_from_All IsLiteralRow s.rows formed.rows)) e (rewritten-first front t indexes stood (kept n within) of are all, (tt, tt)))
          same
      by-work (Err fault) e same = absurd (not-refused asked fault same)

      by-fault : (o : Option SqlError) → asks asked ≡ by_option o (ok_then (write_rows front fresh t indexes 0 (map (row_given t s.columns) s.rows) (record { rows = stood; written = [] }))
          (λ work. placed (length front) t indexes work.written)) (λ fault. refused fault) → IsSqlSound after
      by-fault None same = by-work (write_rows front fresh t indexes 0 (map (row_given t s.columns) s.rows) (record { rows = stood; written = [] })) refl same
      by-fault (Some fault) same = absurd (not-refused asked fault same)

  erased-sound : (s : Delete) (t : Table) (indexes : List SqlIndex) (stood : List StoredRow) → IsTableOf front t → IndexesAre front t indexes → RowsAre front t stood
      → asks asked ≡ erased front s t indexes stood → IsSqlSound after
  erased-sound s t indexes stood of are all told = by-fault (filter_fault (scope_of t false) s.filter) told
    where
      by-some : (b : Bool) → asks asked ≡ (if b then nothing else placed (length front) t indexes (rows_dropped t indexes (rows_met t s stood))) → IsSqlSound after
      by-some true same = absurd (not-nothing asked same)
      by-some false same =
          placed-sound t indexes stood (filter (λ (r : StoredRow). not (meets (scope_of t false) s.filter r.row)) stood) (rows_dropped t indexes (rows_met t s stood)) of are all
          (rows-gone t indexes (λ (r : StoredRow). meets (scope_of t false) s.filter r.row) stood of.0 (formed-of t indexes of are) (numbered-of front t indexes of are)
          (rewritten-first front t indexes stood (kept n within) of are all))
          same

      by-fault : (o : Option SqlError) → asks asked ≡ by_option o (if nat_eq (length (rows_met t s stood)) 0 then nothing else placed (length front) t indexes (rows_dropped t indexes (rows_met t s stood))) (λ fault. refused fault)
          → IsSqlSound after
      by-fault None same = by-some (nat_eq (length (rows_met t s stood)) 0) same
      by-fault (Some fault) same = absurd (not-refused asked fault same)

  written-sound : (name : List ℕ) (answered : Table → List SqlIndex → List StoredRow → Answer) → WriteIs front name answered (asks asked)
      → ((t : Table) (indexes : List SqlIndex) (stood : List StoredRow) → IsTableOf front t → IndexesAre front t indexes → RowsAre front t stood → asks asked ≡ answered t indexes stood → IsSqlSound after) → IsSqlSound after
  written-sound name answered answer sound_by = by-found answer.0 answer.1 answer.2
    where
      by-found : (found : Option Table) → TableIs front name found
          → MatchOption found (asks asked ≡ refused (error.NoTable name))
          (λ t. (indexes : List SqlIndex) × IndexesAre front t indexes × ((rows : List StoredRow) × RowsAre front t rows × (asks asked ≡ answered t indexes rows)))
          → IsSqlSound after
      by-found None absent told = absurd (not-refused asked (error.NoTable name) told)
      by-found (Some t) there told = sound_by t told.0 told.2.0 (table-of name t there) told.1 told.2.1 told.2.2

  -- ---- any statement

  select-asks : (s : Select) → SelectIs front s (asks asked) → ⊥
  select-asks s answer = by-found answer.0 answer.2
    where
      by-at : (t : Table) → SelectAt front s t (number_read (length front) s.period) (asks asked) → ⊥
      by-at t (inl beyond) = not-refused asked (error.Beyond (length front)) beyond.1
      by-at t (inr read) = not-rows asked (selected (scope_of t s.history) s read.1.0) read.1.2

      by-fault : (t : Table) (o : Option SqlError) → MatchOption o (SelectAt front s t (number_read (length front) s.period) (asks asked)) (λ fault. asks asked ≡ refused fault) → ⊥
      by-fault t None told = by-at t told
      by-fault t (Some fault) told = not-refused asked fault told

      by-found : (found : Option Table) → MatchOption found (asks asked ≡ refused (error.NoTable s.table)) (λ t. SelectOf front s t (asks asked)) → ⊥
      by-found None told = not-refused asked (error.NoTable s.table) told
      by-found (Some t) told = by-fault t (select_fault (scope_of t s.history) s) told

  pub statement-sound : (said : Form) → IsStatement said → AnswerIs front said (asks asked) → IsSqlSound after
  statement-sound (form.CreateTable c) formed answer = table-sound c formed answer
  statement-sound (form.CreateIndex c) formed answer = index-sound c formed answer
  statement-sound (form.Upsert s) formed answer = written-sound s.table (inserted front false s) answer (λ t indexes stood of are all told. inserted-sound false s t indexes stood formed of are all told)
  statement-sound (form.Insert s) formed answer = written-sound s.table (inserted front true s) answer (λ t indexes stood of are all told. inserted-sound true s t indexes stood formed of are all told)
  statement-sound (form.Delete s) formed answer = written-sound s.table (erased front s) answer (λ t indexes stood of are all told. erased-sound s t indexes stood of are all told)
  statement-sound (form.Select s) formed answer = absurd (select-asks s answer)

pub statement-kept : (history : List Transaction) (tx : Transaction) (n : ℕ) (said : Form) (asked : Asked) → IsHistory (history ++ tx ∷ []) → IsSqlKept history → n ≤ length history → IsStatement said
    → AnswerIs (take n history) said (asks asked) → Admits history asked.pres → tx.entries ≡ asked.entries → IsSqlKept (history ++ tx ∷ [])
statement-kept history tx n said asked is kept within formed answer admits writes =
    kept-push history tx kept (statement-sound history tx n is kept within asked admits writes said formed answer)
