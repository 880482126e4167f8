use Rattle.std.proofs.Common.{◌≡◌, ◌<◌, ◌+◌, ◌∙◌, ap, arith}
use Rattle.im_core.specs.declared.store.OpenStore.{OpenStore}
use Rattle.im_core.proofs.PlaceLemmas.{indexed-step}
use Rattle.im_core.proofs.UpLemmas.{index-size, not-allowed, placed-count, placed-history}
use Rattle.im_machine.specs.declared.events.Event.TheVariants as on
use Rattle.im_model.specs.History.{transaction_of}
use Rattle.im_core.proofs.store.OpenStore.take_next.Goals as goal

pub returns-then-durable-indexed : goal.returns-then-durable-indexed
returns-then-durable-indexed c hash m u =
    let s : OpenStore = c.args.self.now in
    let indexed : c.taken-indexed.result ≡ m.indexed = c.taken-indexed.ensures ∙ index-size hash s m u in
    let durable : c.durable-durable.result ≡ m.durable = c.durable-durable.ensures ∙ u.durable in
    not-allowed hash s m on.Index u (λ a. let less : m.indexed < m.durable = a.1 in omega (arith, less, indexed, durable, c.if-durable-indexed.true))

pub tx-tx-requires-clause-last : goal.tx-tx-requires-clause-last
tx-tx-requires-clause-last c =
    let u = c.requires.2 in
    omega (arith, c.if-durable-indexed.false, c.durable-durable.ensures, u.durable, u.order.durable_placed, placed-count c.requires.0 c.args.self.now c.requires.1 u)

pub take-requires : goal.take-requires
take-requires c =
    let u = c.requires.2 in
    omega (arith, c.if-durable-indexed.false, c.taken-indexed.ensures, c.durable-durable.ensures, u.durable, u.order.durable_placed, (placed-history c.requires.0 c.args.self.now c.requires.1 u).few)

pub returns : goal.returns
returns c hash m u =
    let s : OpenStore = c.args.self.now in
    let indexed : c.taken-indexed.result ≡ m.indexed = c.taken-indexed.ensures ∙ index-size hash s m u in
    let durable : c.durable-durable.result ≡ m.durable = c.durable-durable.ensures ∙ u.durable in
    indexed-step hash s m c.take.new.self c.tx-tx.result.now u (omega (arith, indexed, durable, c.if-durable-indexed.false))
    (c.tx-tx.ensures ∙ ap (λ n. transaction_of s.book.transactions (n + 1)) indexed) (c.in_ok-take.ensures.taken _ u.lists.index_is)
