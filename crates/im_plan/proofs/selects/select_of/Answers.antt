use Rattle.std.proofs.Common.{◌≡◌, ◌≤◌, ◌∙◌, inr, ℕ, List, Ok, Err, length, min, take, sym, ap, subst, arith}
use Rattle.std.proofs.lemmas.List.{take-take}
use Rattle.im_model.specs.declared.transactions.Transaction.{Transaction}
use Rattle.im_sqlmodel.specs.Kept.{IsTableOf}
use Rattle.im_sqlmodel.specs.Selects.{number_read, select_fault, selected, SourceIs, SelectAt}
use Rattle.im_sqlmodel.specs.declared.answers.SqlError.TheVariants as error
use Rattle.im_sqlmodel.specs.declared.answers.SqlOut.TheVariants as out
use Rattle.im_sqlmodel.specs.declared.tables.Nameable.{Nameable}
use Rattle.im_sqlmodel.proofs.KeptLemmas.{kept-up}
use Rattle.im_catalog.proofs.HistoryLemmas.{history-taken}
use Rattle.im_plan.proofs.SelectLemmas.{counts, select-fault, select-at, select-beyond, select-rows, source-there}
use Rattle.im_plan.proofs.selects.select_of.Goals as goal

-- the table is the one after the number read, where that isn't above n
named-read : (n read : ℕ) (number : ℕ) → read ≡ number → read ≤ n → min number n ≡ read
named-read n read number e h = omega (arith, e, h)

pub selected-requires-clause-view : goal.selected-requires-clause-view
selected-requires-clause-view g c =
    let r = c.requires in
    let read : ℕ = c.number_read-read.result in
    let few : c.args.n ≤ length r.0 = r.2 in
    let within : read ≤ c.args.n = c.if-n-read.false in (
      r.0,
      r.1,
      (let low : read ≤ length r.0 = omega (arith, few, within) in low),
      r.3,
      kept-up read c.args.n r.0 within r.2 r.4,
      subst (λ (k : ℕ). IsTableOf (take k r.0) c.args.table.now) (named-read c.args.n read (number_read c.args.n c.args.select.now.period) c.number_read-read.ensures within) r.5,
    )

pub selected-requires-clause-scope : goal.selected-requires-clause-scope
selected-requires-clause-scope g c = c.as_slice-2.ensures ∙ c.in_ok-scope.ensures

pub returns : goal.returns
returns g c = λ history stands few is kept of.
    let n : ℕ = c.args.n in
    let t = c.args.table.now in
    let s = c.args.select.now in
    let read : ℕ = c.number_read-read.result in
    let h : List Transaction = take n history in
    let within : read ≤ n = c.if-n-read.false in
    let low : read ≤ length history = omega (arith, few, within) in
    let counted : length h ≡ n = counts n history few in
    let read_within : read ≤ length h = omega (arith, counted, within) in
    let kept_read = kept-up read n history within few kept in
    let of_read = subst (λ (k : ℕ). IsTableOf (take k history) t) (named-read n read (number_read n s.period) c.number_read-read.ensures within) of in
    let source = source-there (take read history) t s.history (history-taken read history low is) kept_read of_read in
    let scope = c.as_slice-2.ensures ∙ c.in_ok-scope.ensures in
    let told = c.in_ok-rows.ensures history stands low is kept_read of_read source.0 source.1 in
    let shown = subst (λ (names : List Nameable). c.in_ok-rows.rows ≡ selected names s source.0) scope told in
    let number : read ≡ number_read (length h) s.period = c.number_read-read.ensures ∙ ap (λ (k : ℕ). number_read k s.period) (sym counted) in
    inr (select-at h s t (Ok (out.Rows c.in_ok-rows.rows))
    (sym c.in_default.is ∙ c.in_ok-fault.ensures ∙ ap (λ (names : List Nameable). select_fault names s) (c.as_slice.ensures ∙ c.in_ok-scope.ensures))
    (subst (λ (k : ℕ). SelectAt h s t k (Ok (out.Rows c.in_ok-rows.rows))) number
    (select-rows h s t read source.0 c.in_ok-rows.rows read_within
    (subst (λ (g : List Transaction). SourceIs g t s.history source.0) (sym (take-take read n history within)) source.1) shown)))

pub returns-then-n-read : goal.returns-then-n-read
returns-then-n-read g c = λ history stands few is kept of.
    let n : ℕ = c.args.n in
    let t = c.args.table.now in
    let s = c.args.select.now in
    let h : List Transaction = take n history in
    let counted : length h ≡ n = counts n history few in
    let number : c.number_read-read.result ≡ number_read (length h) s.period = c.number_read-read.ensures ∙ ap (λ (k : ℕ). number_read k s.period) (sym counted) in
    inr (select-at h s t (Err (error.Beyond n))
    (sym c.in_default.is ∙ c.in_ok-fault.ensures ∙ ap (λ (names : List Nameable). select_fault names s) (c.as_slice.ensures ∙ c.in_ok-scope.ensures))
    (subst (λ (k : ℕ). SelectAt h s t k (Err (error.Beyond n))) number (select-beyond h s t n c.number_read-read.result counted c.if-n-read.true)))

pub returns-in-Some : goal.returns-in-Some
returns-in-Some g c = λ history stands few is kept of.
    let s = c.args.select.now in
    inr (select-fault (take c.args.n history) s c.args.table.now c.in-Some.fault
    (sym c.in-Some.is ∙ c.in_ok-fault.ensures ∙ ap (λ (names : List Nameable). select_fault names s) (c.as_slice.ensures ∙ c.in_ok-scope.ensures)))
