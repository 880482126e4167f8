use Rattle.std.proofs.Common.{rules, ◌≤◌, List, sym, subst}
use Rattle.im_model.specs.declared.transactions.Transaction.{Transaction}
use Rattle.im_book.specs.Booked.{last_bl}
use Rattle.im_book.proofs.BookLemmas.{book-same}
use Rattle.im_seated_book.proofs.SeatLemmas.{holds_same}
use Rattle.im_seated_book.proofs.seated.SeatedBook.judge.Goals as goal

pub judge_over-requires : goal.judge_over-requires
judge_over-requires g c = record { few = c.self.invariant.1.is_book.history.few }

pub invariant_of-self : goal.invariant_of-self
invariant_of-self g c =
    let pass = c.self.inside.pass.view in
    let after = c.judge_over.new.book in
    let same = c.judge_over.ensures.same in
    let book = book-same g.N.TipName.digest after c.self.inside.book same.0 same.1 same.2 c.self.invariant.1.is_book in (
      search rules,
      holds_same g.N.TipName.digest g.N.TipName.found pass.seen c.self.inside.book after c.self.inside.refs.items c.self.inside.refs.items c.self.inside.ends c.self.invariant.1 same.0 book (search rules),
      subst (λ (l : List Transaction). last_bl l ≤ pass.least.linked) (sym same.0) c.self.invariant.2,
      c.self.invariant.3,
      c.self.invariant.4,
      c.self.invariant.5,
      c.self.invariant.6,
    )
