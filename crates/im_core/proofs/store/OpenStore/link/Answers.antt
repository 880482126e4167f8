use Rattle.std.proofs.Common.{◌≡◌, ◌<◌, ◌+◌, ◌∙◌, ap, arith}
use Rattle.im_core.specs.declared.store.OpenStore.{OpenStore}
use Rattle.im_core.proofs.PlaceLemmas.{linked-step}
use Rattle.im_core.proofs.UpLemmas.{not-allowed, placed-count, tree-size}
use Rattle.im_digest.specs.Digests.{Hash}
use Rattle.im_machine.specs.declared.events.Event.TheVariants as on
use Rattle.im_model.specs.Headers.{alh}
use Rattle.im_model.specs.History.{header_of}
use Rattle.im_core.proofs.store.OpenStore.link.Goals as goal

pub returns-then-durable-linked : goal.returns-then-durable-linked
returns-then-durable-linked g c m u =
    let hash : Hash = g.H.Hash32.digest c.args.hash.now in
    let s : OpenStore = c.args.self.now in
    let linked : c.size-linked.result ≡ m.linked = c.size-linked.ensures ∙ tree-size hash s m u in
    let durable : c.durable-durable.result ≡ m.durable = c.durable-durable.ensures ∙ u.durable in
    not-allowed hash s m on.Link u (λ a. let less : m.linked < m.durable = a.1 in omega (arith, less, linked, durable, c.if-durable-linked.true))

pub alh-requires-clause-book : goal.alh-requires-clause-book
alh-requires-clause-book g c = (g.H.Hash32.digest c.args.hash.now, c.requires.1.lists.book_is)

pub alh-requires-clause-last : goal.alh-requires-clause-last
alh-requires-clause-last g c =
    let hash : Hash = g.H.Hash32.digest c.args.hash.now in
    let u = c.requires.1 in
    omega (arith, c.if-durable-linked.false, c.durable-durable.ensures, u.durable, u.order.durable_placed, placed-count hash c.args.self.now c.requires.0 u)

pub returns : goal.returns
returns g c m u =
    let hash : Hash = g.H.Hash32.digest c.args.hash.now in
    let s : OpenStore = c.args.self.now in
    let linked : c.size-linked.result ≡ m.linked = c.size-linked.ensures ∙ tree-size hash s m u in
    let durable : c.durable-durable.result ≡ m.durable = c.durable-durable.ensures ∙ u.durable in
    linked-step hash s m c.append.new.self c.alh.result.now u (omega (arith, linked, durable, c.if-durable-linked.false))
    (c.alh.ensures hash u.lists.book_is ∙ ap (λ n. alh hash (header_of hash s.book.transactions (n + 1))) linked)
    (c.in_ok-append.ensures.leaves _ u.lists.tree_is)
