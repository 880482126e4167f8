-- What a statement asks for, by cases of the statement: that keys weren't written behind what it read.
use Rattle.std.specs.Option.{option_or}
use Rattle.std.proofs.Common.{◌≡◌, ◌+◌, ◌∷◌, [], ℕ, List, Bool, true, false, if◌then◌else◌, map, length, nat_eq, nat_lt, MatchOption, Option, None, Some, Result, Ok, Err, inl, inr, ap, subst, sym}
use Rattle.im_draft.specs.declared.preconditions.Pre.TheVariants.{Since}
use Rattle.im_model.specs.declared.transactions.Transaction.{Transaction}
use Rattle.im_sqlmodel.specs.Answers.{AnswerIs}
use Rattle.im_sqlmodel.specs.Conditions.{filter_fault, scope_of}
use Rattle.im_sqlmodel.specs.Creations.{asked_since, create_fault, column_fault, index_made, index_written, table_written, twice_fault, CreateIndexIs, CreateTableIs}
use Rattle.im_sqlmodel.specs.Keys.{index_key, mark_key, table_key, tables_key}
use Rattle.im_sqlmodel.specs.Options.{by_option, ok_then}
use Rattle.im_sqlmodel.specs.Selects.{select_fault, SelectIs}
use Rattle.im_sqlmodel.specs.Tables.{table_names}
use Rattle.im_sqlmodel.specs.Writes.{erased, guarded, inserted, insertion_fault, marked, most_entries, placed, row_given, rows_dropped, rows_met, write_rows, Work, WriteIs}
use Rattle.im_sqlmodel.specs.declared.answers.SqlError.{SqlError}
use Rattle.im_sqlmodel.specs.declared.answers.SqlError.TheVariants as error
use Rattle.im_sqlmodel.specs.declared.answers.SqlOut.{SqlOut}
use Rattle.im_sqlmodel.specs.declared.answers.SqlOut.TheVariants as out
use Rattle.im_sqlmodel.specs.declared.rows.StoredRow.{StoredRow}
use Rattle.im_sqlmodel.specs.declared.tables.SqlIndex.{SqlIndex}
use Rattle.im_sqlmodel.specs.declared.tables.Table.{Table}
use Rattle.im_sqlmodel.specs.declared.written.Written.{Written}
use Rattle.im_sqlparse.specs.declared.statements.CreateIndex.{CreateIndex}
use Rattle.im_sqlparse.specs.declared.statements.CreateTable.{CreateTable}
use Rattle.im_sqlparse.specs.declared.statements.Delete.{Delete}
use Rattle.im_sqlparse.specs.declared.statements.Form.{Form}
use Rattle.im_sqlparse.specs.declared.statements.Form.TheVariants as form
use Rattle.im_sqlparse.specs.declared.statements.Insertion.{Insertion}
use Rattle.im_sqlparse.specs.declared.statements.Select.{Select}
use Rattle.im_tx.specs.Asked.{Asked}

-- an answer that asks for entries does so under preconditions of this kind alone
abbrev AsksSince : ℕ → Result SqlOut SqlError → Type 0
AsksSince n answer = (asked : Asked) → answer ≡ Ok (out.Write asked) → (keys : List (List ℕ)) × (asked.pres ≡ map (λ key. Since key n) keys)

-- of an option one case or the other
either : {A : Type 0} (G none : Type 0) (some : A → Type 0) (found : Option A) → (none → G) → ((x : A) → some x → G) → MatchOption found none some → G
either G none some None f g is = f is
either G none some (Some x) f g is = g x is

module _ (n : ℕ) where
  asks-same : (a b : Result SqlOut SqlError) → b ≡ a → AsksSince n a → AsksSince n b
  asks-same a b same asks = subst (AsksSince n) (sym same) asks

  asks-written : (written : List Written) (keys : List (List ℕ)) → AsksSince n (Ok (out.Write (asked_since n written keys)))
  asks-written written keys asked is =
      let same : asked_since n written keys ≡ asked = cc (is) in
      (keys, ap (λ (a : Asked). a.pres) (sym same))

  asks-fault : (fault : SqlError) → AsksSince n (Err fault)
  asks-fault fault asked is = absurd (cc (is))

  asks-nothing : AsksSince n (Ok out.Nothing)
  asks-nothing asked is = absurd (cc (is))

  asks-if : (b : Bool) (x y : Result SqlOut SqlError) → AsksSince n x → AsksSince n y → AsksSince n (if b then x else y)
  asks-if true x y p q = p
  asks-if false x y p q = q

  asks-option : (fault : Option SqlError) (x : Result SqlOut SqlError) → AsksSince n x → AsksSince n (by_option fault x (λ f. Err f))
  asks-option None x p = p
  asks-option (Some f) x p = asks-fault f

  asks-then : (work : Result Work SqlError) (f : Work → Result SqlOut SqlError) → ((w : Work) → AsksSince n (f w)) → AsksSince n (ok_then work f)
  asks-then (Ok w) f p = p w
  asks-then (Err e) f p = asks-fault e

  asks-placed : (t : Table) (indexes : List SqlIndex) (written : List Written) → AsksSince n (placed n t indexes written)
  asks-placed t indexes written =
      let many : Result SqlOut SqlError = Err (error.TooMany (length (marked t written))) in
      let few : Result SqlOut SqlError = Ok (out.Write (asked_since n (marked t written) (guarded t indexes written))) in
      asks-if (nat_lt most_entries (length (marked t written))) many few (asks-fault (error.TooMany (length (marked t written))))
      (asks-written (marked t written) (guarded t indexes written))

module _ (history : List Transaction) where
  abbrev n : ℕ
  n = length history

  inserted-asks : (fresh : Bool) (s : Insertion) (t : Table) (indexes : List SqlIndex) (rows : List StoredRow) → AsksSince n (inserted history fresh s t indexes rows)
  inserted-asks fresh s t indexes rows =
      let work = write_rows history fresh t indexes 0 (map (row_given t s.columns) s.rows) (record { rows = rows; written = [] }) in
      let place : Work → Result SqlOut SqlError = λ w. placed n t indexes w.written in
      asks-option n (insertion_fault t s) (ok_then work place) (asks-then n work place (λ w. asks-placed n t indexes w.written))

  erased-asks : (s : Delete) (t : Table) (indexes : List SqlIndex) (rows : List StoredRow) → AsksSince n (erased history s t indexes rows)
  erased-asks s t indexes rows =
      let met = rows_met t s rows in
      let place = placed n t indexes (rows_dropped t indexes met) in
      asks-option n (filter_fault (scope_of t false) s.filter) (if nat_eq (length met) 0 then Ok out.Nothing else place)
      (asks-if n (nat_eq (length met) 0) (Ok out.Nothing) place (asks-nothing n) (asks-placed n t indexes (rows_dropped t indexes met)))

  module _ (answer : Result SqlOut SqlError) where
    -- no answer of an error asks for anything
    fault-asks : (fault : SqlError) → answer ≡ Err fault → AsksSince n answer
    fault-asks fault is = asks-same n (Err fault) answer is (asks-fault n fault)

    write-asks : (table : List ℕ) (answered : Table → List SqlIndex → List StoredRow → Result SqlOut SqlError)
        → ((t : Table) (indexes : List SqlIndex) (rows : List StoredRow) → AsksSince n (answered t indexes rows)) → WriteIs history table answered answer → AsksSince n answer
    write-asks table answered each is =
        either (AsksSince n answer) _ _ is.0 (fault-asks (error.NoTable table))
        (λ t of. asks-same n (answered t of.0 of.2.0) answer of.2.2 (each t of.0 of.2.0)) is.2

    table-asks : (c : CreateTable) → CreateTableIs history c answer → AsksSince n answer
    table-asks c is =
        let G = AsksSince n answer in
        either G _ _ is.0
        (λ of. either G _ _ (create_fault c)
        (λ made. asks-same n (Ok (out.Write (asked_since n (table_written made.0 c) (tables_key ∷ table_key c.table ∷ [])))) answer made.2
        (asks-written n (table_written made.0 c) (tables_key ∷ table_key c.table ∷ [])))
        fault-asks of)
        (λ t same. asks-same n (if c.if_not_exists then Ok out.Nothing else Err (error.Exists c.table)) answer same
        (asks-if n c.if_not_exists (Ok out.Nothing) (Err (error.Exists c.table)) (asks-nothing n) (asks-fault n (error.Exists c.table)))) is.2

    index-asks : (c : CreateIndex) → CreateIndexIs history c answer → AsksSince n answer
    index-asks c is =
        let G = AsksSince n answer in
        either G _ _ is.0 (fault-asks (error.NoTable c.table))
        (λ t of. either G _ _ (option_or (column_fault (table_names t) c.columns) (twice_fault c.columns))
        (λ made.
        (let written = index_written t (index_made (length made.2.0) t c) in
        let keys = index_key t.tid (length made.2.0 + 1) ∷ mark_key t.tid ∷ [] in
        asks-same n (if nat_eq (length made.0) 0 then Ok (out.Write (asked_since n written keys)) else Err (error.HasRows c.table)) answer made.2.2
        (asks-if n (nat_eq (length made.0) 0) (Ok (out.Write (asked_since n written keys))) (Err (error.HasRows c.table)) (asks-written n written keys) (asks-fault n (error.HasRows c.table)))))
        fault-asks of) is.2

    select-asks : (s : Select) → SelectIs history s answer → AsksSince n answer
    select-asks s is =
        let G = AsksSince n answer in
        either G _ _ is.0 (fault-asks (error.NoTable s.table))
        (λ t of. either G _ _ (select_fault (scope_of t s.history) s)
        (λ at. elim at [
          | inl beyond ↦ fault-asks (error.Beyond n) beyond.1
          | inr within ↦ (λ asked wants. absurd (cc (within.1.2, wants)))
        ])
        fault-asks of) is.2

pub answer-asks : (history : List Transaction) (said : Form) (answer : Result SqlOut SqlError) → AnswerIs history said answer → AsksSince (length history) answer
answer-asks history (form.CreateTable c) answer is = table-asks history answer c is
answer-asks history (form.CreateIndex c) answer is = index-asks history answer c is
answer-asks history (form.Upsert s) answer is = write-asks history answer s.table (inserted history false s) (inserted-asks history false s) is
answer-asks history (form.Insert s) answer is = write-asks history answer s.table (inserted history true s) (inserted-asks history true s) is
answer-asks history (form.Delete s) answer is = write-asks history answer s.table (erased history s) (erased-asks history s) is
answer-asks history (form.Select s) answer is = select-asks history answer s is
