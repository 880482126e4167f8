use Rattle.std.proofs.Common.{rules, ◌≡◌, ◌<◌, ◌∙◌, List, length, arith, subst, sym}
use Rattle.std.proofs.lemmas.Result.{IfOk-weaker}
use mathlib.Core.List.{IsPrefix}
use Rattle.im_levels.specs.Leveled.{Stored}
use Rattle.im_model.specs.History.{transaction_of}
use Rattle.im_model.specs.declared.transactions.Transaction.{Transaction}
use Rattle.im_table.specs.Histories.{history_of}
use Rattle.im_table.specs.declared.items.LogItem.{LogItem}
use Rattle.im_store.specs.Proving.{IsProvedOver, ProvesEntry}
use Rattle.im_store.proofs.ProveLemmas.{transaction_front}
use Rattle.im_store.proofs.store.Store.entry_of.Goals as goal

pub shown-requires-clause-over : goal.shown-requires-clause-over
shown-requires-clause-over g c =
    let hash = g.N.TipName.digest in
    let both = c.show_both in
    let book : c.deref.result.now ≡ both.new.book = search rules in
    let tree : c.deref-2.result.now ≡ both.new.tree = search rules in
    let over = both.ensures.over c.args.s (omega (arith, c.requires.some, c.requires.order)) (omega (arith, c.requires.durable.0, both.ensures.durable.0)) in
    subst (λ (l : List LogItem). IsProvedOver hash l c.deref-2.result.now c.args.s) (sym book)
    (subst (λ (t : Stored). IsProvedOver hash both.new.book t c.args.s) (sym tree) over)

-- the transaction is the same behind the step
pub returns-clause-index : goal.returns-clause-index
returns-clause-index g c =
    let same = transaction_front c.args.pass.now.view.seen c.show_both.new.pass.view.seen c.args.t c.show_both.ensures.follows.later.seen c.requires.some c.requires.durable.1 in
    subst (λ (t : Transaction). c.args.i < length t.entries) (sym same) c.requires.index

pub shown-requires-clause-index : goal.shown-requires-clause-index
shown-requires-clause-index g c =
    let both = c.show_both in
    let begins = subst (λ (l : List LogItem). IsPrefix c.args.pass.now.view.seen l) both.ensures.seen both.ensures.follows.later.seen in
    let book : c.deref.result.now ≡ both.new.book = search rules in
    let same = transaction_front c.args.pass.now.view.seen both.new.book c.args.t begins c.requires.some c.requires.durable.1 in
    subst (λ (l : List LogItem). c.args.i < length (transaction_of (history_of l) c.args.t).entries) (sym book)
    (subst (λ (t : Transaction). c.args.i < length t.entries) (sym same) c.requires.index)

pub returns-clause-seen : goal.returns-clause-seen
returns-clause-seen g c = omega (arith, c.requires.durable.0, c.show_both.ensures.durable.1)

pub returns-clause-entry : goal.returns-clause-entry
returns-clause-entry g c =
    let book : c.deref.result.now ≡ c.show_both.new.book = search rules in
    IfOk-weaker c.shown.result _ _
    (λ item proves. subst (λ (l : List LogItem). ProvesEntry g.N.TipName.digest (history_of l) c.args.t c.args.i c.args.s item) (book ∙ sym c.show_both.ensures.seen) proves)
    c.shown.ensures
