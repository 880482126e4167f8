use Rattle.std.proofs.Common.{rules, ◌≡◌, ◌≤◌, ◌∙◌, List, length, ap, arith, sym}
use Rattle.im_model.specs.History.{transaction_of}
use Rattle.im_model.specs.declared.transactions.Transaction.{Transaction}
use Rattle.im_table.specs.Histories.{history_of}
use Rattle.im_table.specs.declared.items.LogItem.{LogItem}
use Rattle.im_table.specs.declared.view.AllLooks.{AllLooks}
use Rattle.im_table.proofs.HistoryLemmas.{history_length}
use Rattle.im_store.proofs.GainLemmas.{follows_placed}
use Rattle.im_store.proofs.ProveLemmas.{entries_few, transaction_read}
use Rattle.im_store.proofs.store.Store.width_of.Goals as goal

pub bounds-transactions-at : goal.bounds-transactions-at
bounds-transactions-at g c =
    let show = c.show in
    let book : c.deref.result.now ≡ show.new.self = search rules in
    let transactions = c.transactions-transactions.ensures ∙ ap (λ (l : List LogItem). history_of l) book in
    omega (
      arith,
      c.requires.some,
      c.requires.durable,
      show.ensures.later.durable,
      show.ensures.durable,
      show.ensures.seen.1,
      ap (λ (l : List Transaction). length l) transactions,
      history_length show.new.self,
    )

pub returns-clause-follows : goal.returns-clause-follows
returns-clause-follows g c = follows_placed c.show.result c.args.pass.now c.show.new.pass c.show.ensures.later c.show.ensures.adds c.show.ensures.looks

pub returns-clause-loads : goal.returns-clause-loads
returns-clause-loads g c = ap (λ (l : AllLooks). l.durable) c.show.ensures.looks

pub returns-clause-seen : goal.returns-clause-seen
returns-clause-seen g c =
    let show = c.show.ensures in
    omega (arith, show.later.durable, show.durable, show.seen.1, ap (λ (l : List LogItem). length l) show.seen.0)

pub entry_count-requires : goal.entry_count-requires
entry_count-requires g c =
    let show = c.show in
    let within : c.args.t ≤ length show.new.self = omega (arith, c.requires.durable, show.ensures.later.durable, show.ensures.durable, show.ensures.seen.1) in
    let book : c.deref.result.now ≡ show.new.self = search rules in
    let transactions = c.transactions-transactions.ensures ∙ ap (λ (l : List LogItem). history_of l) book in
    let tx : Transaction = c.index-transactions-at.result in
    let is = transaction_read show.new.self c.transactions-transactions.result.now c.args.t tx transactions c.requires.some within c.index-transactions-at.is in
    let few = entries_few show.new.self c.args.t show.ensures.history c.requires.some within in
    omega (arith, few, ap (λ (t : Transaction). length t.entries) is)

pub returns-clause-width : goal.returns-clause-width
returns-clause-width g c =
    let show = c.show in
    let within : c.args.t ≤ length show.new.self = omega (arith, c.requires.durable, show.ensures.later.durable, show.ensures.durable, show.ensures.seen.1) in
    let book : c.deref.result.now ≡ show.new.self = search rules in
    let transactions = c.transactions-transactions.ensures ∙ ap (λ (l : List LogItem). history_of l) book in
    let tx : Transaction = c.index-transactions-at.result in
    let is = transaction_read show.new.self c.transactions-transactions.result.now c.args.t tx transactions c.requires.some within c.index-transactions-at.is in
    c.entry_count.ensures ∙ ap (λ (t : Transaction). length t.entries) is
    ∙ sym (ap (λ (l : List LogItem). length (transaction_of (history_of l) c.args.t).entries) show.ensures.seen.0)
