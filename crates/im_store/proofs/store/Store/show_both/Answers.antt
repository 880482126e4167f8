use Rattle.std.proofs.Common.{◌≤◌, ◌∙◌, List, length, ap, arith, subst, sym}
use mathlib.Core.List.{IsPrefix}
use Rattle.im_book.specs.Booked.{last_bl}
use Rattle.im_table.specs.Histories.{history_of}
use Rattle.im_table.specs.declared.items.LogItem.{LogItem}
use Rattle.im_table.specs.declared.view.AllLooks.{AllLooks}
use Rattle.im_store.proofs.GainLemmas.{follows_placed, follows_shown, follows_then}
use Rattle.im_store.proofs.ProveLemmas.{proved_over}
use Rattle.im_store.proofs.ListLemmas.{list_shown}
use Rattle.im_store.proofs.store.Store.show_both.Goals as goal

pub returns-clause-follows : goal.returns-clause-follows
returns-clause-follows g c =
    let first = c.show in
    let tree = c.show-2 in
    let again = c.show-3 in
    let a = follows_placed first.result c.args.pass.now first.new.pass first.ensures.later first.ensures.adds first.ensures.looks in
    let b = follows_shown first.new.pass tree.new.pass tree.ensures.later tree.ensures.adds tree.ensures.looks in
    let d = follows_placed again.result tree.new.pass again.new.pass again.ensures.later again.ensures.adds again.ensures.looks in
    follows_then 0 c.args.pass.now tree.new.pass again.new.pass (follows_then 0 c.args.pass.now first.new.pass tree.new.pass a b) d

pub returns-clause-loads : goal.returns-clause-loads
returns-clause-loads g c =
    ap (λ (l : AllLooks). l.durable) c.show-3.ensures.looks ∙ ap (λ (l : AllLooks). l.durable) c.show-2.ensures.looks ∙ ap (λ (l : AllLooks). l.durable) c.show.ensures.looks

pub returns-clause-durable : goal.returns-clause-durable
returns-clause-durable g c =
    let le : c.args.pass.now.view.least.durable ≤ length c.show-3.new.self =
    omega (arith, c.show.ensures.later.durable, c.show-2.ensures.later.durable, c.show-3.ensures.later.durable, c.show-3.ensures.durable, c.show-3.ensures.seen.1) in
    (le, omega (arith, le, ap (λ (l : List LogItem). length l) c.show-3.ensures.seen.0))

-- the tree has the tree of the last transaction, by the first look at the book, and no more leaves than the book, by the second
pub returns-clause-over : goal.returns-clause-over
returns-clause-over g c n some within =
    let hash = g.N.TipName.digest in
    let book = c.show-3.new.self in
    let tree = c.show-2.new.self in
    let begins = subst (λ (l : List LogItem). IsPrefix c.show-2.new.pass.view.seen l) c.show-3.ensures.seen.0 c.show-3.ensures.later.seen in
    let last : last_bl (history_of book) ≤ c.show.new.pass.view.least.linked =
    subst (λ (l : List LogItem). last_bl (history_of l) ≤ c.show.new.pass.view.least.linked) (sym c.show-3.ensures.same) c.show.ensures.over in
    proved_over hash c.show-2.new.pass.view.seen book tree n c.show-3.ensures.history begins c.show-2.ensures.leaves
    (omega (arith, last, c.show-2.ensures.later.linked, c.show-2.ensures.size.0, c.show-2.ensures.size.1)) some within

-- the book's list is the pass's
pub returns-clause-list : goal.returns-clause-list
returns-clause-list g c =
    let show = c.show-3 in
    list_shown g.L.Law.allows g.N.TipName.digest g.N.TipName.logs c.args.self.now.tip.logs g.N.TipName.found show.new.self show.new.pass.view.seen show.ensures.seen.0 c.args.self.now.logged
    show.ensures.found show.ensures.history show.ensures.meets show.ensures.referred
