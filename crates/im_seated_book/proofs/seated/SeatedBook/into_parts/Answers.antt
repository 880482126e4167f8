use Rattle.std.proofs.Common.{◌∙◌, List, ap, subst}
use Rattle.im_model.specs.History.{IsHistory}
use Rattle.im_model.specs.declared.transactions.Transaction.{Transaction}
use Rattle.im_table.specs.Histories.{history_of, GoesOn}
use Rattle.im_table.specs.declared.items.LogItem.{LogItem}
use Rattle.im_seated_book.specs.Seats.{HasTimed, HaveReferences}
use Rattle.im_seated_book.proofs.seated.SeatedBook.into_parts.Goals as goal

pub returns-clause-book : goal.returns-clause-book
returns-clause-book g c = c.self.invariant.1.transactions ∙ ap (λ (l : List LogItem). history_of l) c.self.view_is

pub returns-clause-timed : goal.returns-clause-timed
returns-clause-timed g c =
    subst (λ (l : List LogItem). HasTimed g.N.TipName.time (g.C.Clock.constant c.self.inside.clock) g.N.TipName.given (g.C.Clock.given c.self.inside.clock) g.N.TipName.found l) c.self.view_is c.self.invariant.3

pub returns-clause-found : goal.returns-clause-found
returns-clause-found g c = subst (λ (l : List LogItem). GoesOn g.N.TipName.found l) c.self.view_is c.self.invariant.1.goes_on

pub returns-clause-history : goal.returns-clause-history
returns-clause-history g c =
    subst (λ (l : List LogItem). IsHistory (history_of l)) c.self.view_is
    (subst (λ (l : List Transaction). IsHistory l) c.self.invariant.1.transactions c.self.invariant.1.is_book.history)

pub returns-clause-referred : goal.returns-clause-referred
returns-clause-referred g c = subst (λ (l : List LogItem). HaveReferences g.N.TipName.digest 1 l) c.self.view_is c.self.invariant.1.referred
