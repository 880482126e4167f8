use Rattle.std.proofs.Common.{rules, ◌≡◌, ◌≤◌, List, sym, subst, arith}
use Rattle.im_model.specs.History.{IsHistory}
use Rattle.im_model.specs.declared.transactions.Transaction.{Transaction}
use Rattle.im_table.specs.Histories.{history_of, GoesOn}
use Rattle.im_table.specs.References.{IsLawful}
use Rattle.im_table.specs.declared.items.LogItem.{LogItem}
use Rattle.im_book.specs.Booked.{last_bl}
use Rattle.im_seated_book.specs.Seats.{HasTimed, HaveReferences, HoldsItems}
use Rattle.im_seated_book.proofs.seated.SeatedBook.show.Goals as goal

pub invariant_of-self : goal.invariant_of-self
invariant_of-self g c =
    let found = g.N.TipName.found in
    let same : c.split.result.view.seen ≡ c.self.inside.pass.view.seen = search rules in
    let linked : c.self.inside.pass.view.least.linked ≤ c.split.result.view.least.linked = search rules in (
      search rules,
      subst (λ (l : List LogItem). HoldsItems g.N.TipName.digest found l c.self.inside.book c.self.inside.refs.items c.self.inside.ends) (sym same) c.self.invariant.1,
      omega (arith, c.self.invariant.2, linked),
      subst (λ (l : List LogItem). HasTimed g.N.TipName.time (g.C.Clock.constant c.self.inside.clock) g.N.TipName.given (g.C.Clock.given c.self.inside.clock) found l) (sym same) c.self.invariant.3,
      search rules,
      search rules,
      search rules,
    )

pub returns-clause-found : goal.returns-clause-found
returns-clause-found g c =
    let same : c.split.result.view.seen ≡ c.self.inside.pass.view.seen = search rules in
    subst (λ (l : List LogItem). GoesOn g.N.TipName.found l) (sym same) c.self.invariant.1.goes_on

pub returns-clause-history : goal.returns-clause-history
returns-clause-history g c =
    let same : c.split.result.view.seen ≡ c.self.inside.pass.view.seen = search rules in
    subst (λ (l : List LogItem). IsHistory (history_of l)) (sym same)
    (subst (λ (l : List Transaction). IsHistory l) c.self.invariant.1.transactions c.self.invariant.1.is_book.history)

pub returns-clause-referred : goal.returns-clause-referred
returns-clause-referred g c =
    let same : c.split.result.view.seen ≡ c.self.inside.pass.view.seen = search rules in
    subst (λ (l : List LogItem). HaveReferences g.N.TipName.digest 1 l) (sym same) c.self.invariant.1.referred

pub returns-clause-meets : goal.returns-clause-meets
returns-clause-meets g c =
    let same : c.split.result.view.seen ≡ c.fetch.new.pass.view.seen = search rules in
    subst (λ (l : List LogItem). IsLawful g.L.Law.allows c.args.tip.now.logs l) (sym same) c.load_placed-placed.ensures.sees.lawful

pub returns-clause-over : goal.returns-clause-over
returns-clause-over g c =
    let linked = c.split.new.pass.view.least.linked in
    let same : c.split.result.view.seen ≡ c.self.inside.pass.view.seen = search rules in
    let more : c.self.inside.pass.view.least.linked ≤ linked = search rules in
    let last = subst (λ (l : List Transaction). last_bl l ≤ c.self.inside.pass.view.least.linked) c.self.invariant.1.transactions c.self.invariant.2 in
    subst (λ (l : List LogItem). last_bl (history_of l) ≤ linked) (sym same) (omega (arith, last, more))
