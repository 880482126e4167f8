use Rattle.std.proofs.Common.{◌≡◌, ◌≤◌, ◌∙◌, inr, ℕ, List, Option, Some, None, Result, Err, length, min, take, ap, subst, arith}
use Rattle.im_model.specs.declared.transactions.Transaction.{Transaction}
use Rattle.im_sqlmodel.specs.Kept.{IsTableOf}
use Rattle.im_sqlmodel.specs.Rows.{TableIs}
use Rattle.im_sqlmodel.specs.Selects.{number_named}
use Rattle.im_sqlmodel.specs.declared.answers.SqlError.{SqlError}
use Rattle.im_sqlmodel.specs.declared.answers.SqlError.TheVariants as error
use Rattle.im_sqlmodel.specs.declared.answers.SqlOut.{SqlOut}
use Rattle.im_sqlmodel.specs.declared.tables.Table.{Table}
use Rattle.im_sqlmodel.proofs.KeptLemmas.{kept-at}
use Rattle.im_catalog.proofs.ThereLemmas.{table-of}
use Rattle.im_plan.proofs.SelectLemmas.{looked-up, select-none, select-some}
use Rattle.im_plan.proofs.selects.select.Goals as goal

-- the answer of a table that isn't there
abbrev no_table : List ℕ → Result SqlOut SqlError
no_table name = Err (error.NoTable name)

pub table-requires : goal.table-requires
table-requires g c =
    let r = c.requires in
    let least : c.min-named.result ≡ min c.number_read.result c.args.n = c.min-named.ensures in
    let within : c.min-named.result ≤ c.args.n = omega (arith, least) in
    let few : c.args.n ≤ length r.0 = r.2 in
    (r.0, r.1, (let low : c.min-named.result ≤ length r.0 = omega (arith, within, few) in low), kept-at c.min-named.result c.args.n r.0 within r.2 r.4)

pub select_of-answer-requires : goal.select_of-answer-requires
select_of-answer-requires g c =
    let r = c.requires in
    let s = c.args.select.now in
    let least : c.min-named.result ≡ min c.number_read.result c.args.n = c.min-named.ensures in
    let within : c.min-named.result ≤ c.args.n = omega (arith, least) in
    let few : c.args.n ≤ length r.0 = r.2 in
    let low : c.min-named.result ≤ length r.0 = omega (arith, within, few) in
    let is = subst (λ (found : Option Table). TableIs (take c.min-named.result r.0) c.as_slice.result.now found) c.in-Some.is
    (c.in_ok-table.ensures r.0 r.1 low (kept-at c.min-named.result c.args.n r.0 within r.2 r.4)) in
    let of = table-of (take c.min-named.result r.0) c.as_slice.result.now c.in-Some.table is in
    (r.0, r.1, r.2, r.3, r.4, subst (λ (k : ℕ). IsTableOf (take k r.0) c.in-Some.table) (c.min-named.ensures ∙ ap (λ (k : ℕ). min k c.args.n) c.number_read.ensures) of)

pub returns-in-Some : goal.returns-in-Some
returns-in-Some g c = λ history stands few is kept.
    let n : ℕ = c.args.n in
    let s = c.args.select.now in
    let h : List Transaction = take n history in
    let named : ℕ = c.min-named.result in
    let least : named ≡ min c.number_read.result n = c.min-named.ensures in
    let within : named ≤ n = omega (arith, least) in
    let low : named ≤ length history = omega (arith, within, few) in
    let called : named ≡ number_named n s.period = c.min-named.ensures ∙ ap (λ (k : ℕ). min k n) c.number_read.ensures in
    let found = subst (λ (o : Option Table). TableIs (take named history) c.as_slice.result.now o) c.in-Some.is
    (c.in_ok-table.ensures history stands low (kept-at named n history within few kept)) in
    let of = subst (λ (k : ℕ). IsTableOf (take k history) c.in-Some.table) called (table-of (take named history) c.as_slice.result.now c.in-Some.table found) in
    select-some h s c.in-Some.table c.select_of-answer.result
    (looked-up n named history s.period s.table (Some c.in-Some.table) few called within (subst (λ (name : List ℕ). TableIs (take named history) name (Some c.in-Some.table)) c.as_slice.ensures found))
    (c.select_of-answer.ensures history stands few is kept of)

pub returns-in_ok-table-in-None : goal.returns-in_ok-table-in-None
returns-in_ok-table-in-None g c = λ history stands few is kept.
    let n : ℕ = c.args.n in
    let s = c.args.select.now in
    let h : List Transaction = take n history in
    let named : ℕ = c.min-named.result in
    let least : named ≡ min c.number_read.result n = c.min-named.ensures in
    let within : named ≤ n = omega (arith, least) in
    let low : named ≤ length history = omega (arith, within, few) in
    let called : named ≡ number_named n s.period = c.min-named.ensures ∙ ap (λ (k : ℕ). min k n) c.number_read.ensures in
    let found = subst (λ (o : Option Table). TableIs (take named history) c.as_slice.result.now o) c.in-None.is
    (c.in_ok-table.ensures history stands low (kept-at named n history within few kept)) in
    inr (select-none h s _
    (looked-up n named history s.period s.table None few called within (subst (λ (name : List ℕ). TableIs (take named history) name None) c.as_slice.ensures found))
    (ap (λ (x : List ℕ). no_table x) (c.in_ok-table-in-None.ensures ∙ c.as_slice-in-None.ensures)))
