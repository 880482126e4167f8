-- The answer of a SELECT, by what its table is and what is wrong with it.
use Rattle.std.proofs.Common.{◌≡◌, ◌≤◌, ◌<◌, ◌⊎◌, inl, inr, ℕ, Bool, true, false, List, length, map, take, Option, Some, None, MatchOption, Result, Ok, Err, refl, sym, ap, ◌∙◌, subst}
use Rattle.std.proofs.lemmas.List.{length-take-le, take-take}
use Rattle.im_model.specs.History.{IsHistory}
use Rattle.im_model.specs.declared.transactions.Transaction.{Transaction}
use Rattle.im_sqltype.specs.declared.values.Value.{Value}
use Rattle.im_sqlparse.specs.declared.statements.Period.{Period}
use Rattle.im_sqlparse.specs.declared.statements.Select.{Select}
use Rattle.im_sqlmodel.specs.Conditions.{scope_of}
use Rattle.im_sqlmodel.specs.Kept.{IsTableOf, IsSqlKept}
use Rattle.im_sqlmodel.specs.Rows.{TableIs}
use Rattle.im_sqlmodel.specs.Selects.{number_read, number_named, select_fault, selected, SourceIs, SelectAt, SelectOf, SelectIs}
use Rattle.im_sqlmodel.specs.declared.answers.SqlError.{SqlError}
use Rattle.im_sqlmodel.specs.declared.answers.SqlError.TheVariants as error
use Rattle.im_sqlmodel.specs.declared.answers.SqlOut.{SqlOut}
use Rattle.im_sqlmodel.specs.declared.answers.SqlOut.TheVariants as out
use Rattle.im_sqlmodel.specs.declared.rows.StoredRow.{StoredRow}
use Rattle.im_sqlmodel.specs.declared.tables.Table.{Table}
use Rattle.im_sqlmodel.proofs.KeptLemmas.{kept-sound}
use Rattle.im_catalog.proofs.HistoryLemmas.{history-is}
use Rattle.im_catalog.proofs.ThereLemmas.{rows-are}

-- what a line counts
pub counts : (n : ℕ) (history : List Transaction) → n ≤ length history → length (take n history) ≡ n
counts n history h = length-take-le n history h

-- the table is looked up after the number that is named, of the first n transactions as of all
pub looked-up : (n m : ℕ) (history : List Transaction) (period : Period) (name : List ℕ) (found : Option Table) → n ≤ length history → m ≡ number_named n period → m ≤ n
    → TableIs (take m history) name found → TableIs (take (number_named (length (take n history)) period) (take n history)) name found
looked-up n m history period name found h named within is =
    let same : m ≡ number_named (length (take n history)) period = named ∙ ap (λ k. number_named k period) (sym (counts n history h)) in
    subst (λ k. TableIs (take k (take n history)) name found) same
    (subst (λ (first : List Transaction). TableIs first name found) (sym (take-take m n history within)) is)

pub select-none : (history : List Transaction) (s : Select) (answer : Result SqlOut SqlError) → TableIs (take (number_named (length history) s.period) history) s.table None
    → answer ≡ Err (error.NoTable s.table) → SelectIs history s answer
select-none history s answer is e = (None, is, e)

pub select-some : (history : List Transaction) (s : Select) (t : Table) (answer : Result SqlOut SqlError) → TableIs (take (number_named (length history) s.period) history) s.table (Some t)
    → (answer ≡ Err error.Memory) ⊎ SelectOf history s t answer → (answer ≡ Err error.Memory) ⊎ SelectIs history s answer
select-some history s t answer is (inl short) = inl short
select-some history s t answer is (inr told) = inr (Some t, is, told)

abbrev answered : Result SqlOut SqlError → Result SqlOut SqlError
answered answer = answer

same-answer : (answer : Result SqlOut SqlError) → answered answer ≡ answered answer
same-answer answer = refl

-- what is wrong with it is its answer
pub select-fault : (history : List Transaction) (s : Select) (t : Table) (fault : SqlError) → Some fault ≡ select_fault (scope_of t s.history) s → SelectOf history s t (Err fault)
select-fault history s t fault e =
    subst (λ (o : Option SqlError). MatchOption o (SelectAt history s t (number_read (length history) s.period) (Err fault)) (λ (f : SqlError). answered (Err fault) ≡ answered (Err f))) e
    (same-answer (Err fault))

pub select-at : (history : List Transaction) (s : Select) (t : Table) (answer : Result SqlOut SqlError) → None ≡ select_fault (scope_of t s.history) s
    → SelectAt history s t (number_read (length history) s.period) answer → SelectOf history s t answer
select-at history s t answer e at =
    subst (λ (o : Option SqlError). MatchOption o (SelectAt history s t (number_read (length history) s.period) answer) (λ f. answer ≡ Err f)) e at

pub select-beyond : (history : List Transaction) (s : Select) (t : Table) (n read : ℕ) → length history ≡ n → n < read → SelectAt history s t read (Err (error.Beyond n))
select-beyond history s t n read counted less =
    inl (subst (λ k. k < read) (sym counted) less, ap (λ k. Err (error.Beyond k)) (sym counted))

pub select-rows : (history : List Transaction) (s : Select) (t : Table) (read : ℕ) (rows shown : List (List Value)) → read ≤ length history → SourceIs (take read history) t s.history rows
    → shown ≡ selected (scope_of t s.history) s rows → SelectAt history s t read (Ok (out.Rows shown))
select-rows history s t read rows shown within source e = inr (within, (rows, source, ap (λ r. Ok (out.Rows r)) e))

-- there are rows that it reads
pub source-there : (history : List Transaction) (t : Table) (is_history : Bool) → IsHistory history → IsSqlKept history → IsTableOf history t → (rows : List (List Value)) × SourceIs history t is_history rows
source-there history t true is kept of = history-is history t is kept of
source-there history t false is kept of =
    let rows = rows-are history t (kept-sound history kept) of in
    (map (λ (s : StoredRow). s.row) rows.0, (rows.0, rows.1, refl))
