use Rattle.std.proofs.Common.{◌≡◌, ◌≤◌, ◌∙◌, sym, subst, List, take, length}
use Rattle.std.proofs.lemmas.Iterator.Adapters.{YieldsList-from_vec}
use Rattle.std.proofs.lemmas.Iterator.Consumers.{YieldsList-so_far, YieldsList-turn}
use Rattle.std.proofs.lemmas.List.{map-id}
use Rattle.im_model.specs.History.{IsTransaction}
use Rattle.im_model.specs.declared.transactions.Transaction.{Transaction}
use Rattle.im_book.specs.Booked.{last_bl}
use Rattle.im_book.proofs.RootLemmas.{next-fits}
use Rattle.im_book.proofs.book.Book.new.Goals as goal

pub push_over-requires-clause-limits : goal.push_over-requires-clause-limits
push_over-requires-clause-limits g c =
    let items : List Transaction = c.args.transactions.items in
    let before : List Transaction = c.loop-tx.yielded in
    let gives = c.into_iter-tx-iterator.ensures.into_iter_gives in
    let each = YieldsList-from_vec {s = c.into_iter-tx-iterator.result} items gives.0 (gives.1 ∙ c.args.transactions.ok.0) in
    let front = YieldsList-so_far each before c.loop-tx.tx-iterator c.loop-tx.yielded_by in
    let turn = YieldsList-turn each before c.loop-tx.tx-iterator c.loop-tx.yielded_by c.next.result c.next.new.self c.in-Some.tx c.in-Some.is c.next.ensures.steps in
    let first : take (length before) items ≡ before = sym front ∙ map-id before in
    subst (λ (txs : List Transaction). IsTransaction (length txs) c.in-Some.tx) (sym c.loop-tx.invariant.transactions)
    (next-fits items before c.in-Some.tx c.requires first turn.0 turn.1).0

pub push_over-requires-clause-over : goal.push_over-requires-clause-over
push_over-requires-clause-over g c =
    let items : List Transaction = c.args.transactions.items in
    let before : List Transaction = c.loop-tx.yielded in
    let gives = c.into_iter-tx-iterator.ensures.into_iter_gives in
    let each = YieldsList-from_vec {s = c.into_iter-tx-iterator.result} items gives.0 (gives.1 ∙ c.args.transactions.ok.0) in
    let front = YieldsList-so_far each before c.loop-tx.tx-iterator c.loop-tx.yielded_by in
    let turn = YieldsList-turn each before c.loop-tx.tx-iterator c.loop-tx.yielded_by c.next.result c.next.new.self c.in-Some.tx c.in-Some.is c.next.ensures.steps in
    let first : take (length before) items ≡ before = sym front ∙ map-id before in
    subst (λ (txs : List Transaction). last_bl txs ≤ c.in-Some.tx.bl) (sym c.loop-tx.invariant.transactions)
    (next-fits items before c.in-Some.tx c.requires first turn.0 turn.1).1
