use Rattle.std.proofs.Common.{◌≡◌, ◌≤◌, ◌∙◌, List, length, sym, ap, subst, arith}
use Rattle.std.proofs.lemmas.Result.{IfOk-weaker}
use Rattle.im_core.specs.declared.store.OpenStore.{OpenStore}
use Rattle.im_core.proofs.ReadLemmas.{headers-are, headers-count, tree-leaves, trees-within}
use Rattle.im_core.proofs.UpLemmas.{between-up, placed-history}
use Rattle.im_digest.specs.Digests.{Hash}
use Rattle.im_dual.specs.Kept.{header_at}
use Rattle.im_dual.proofs.FrontLemmas.{front-anchor}
use Rattle.im_model.specs.declared.headers.Header.{Header}
use Rattle.im_core.proofs.store.OpenStore.anchor.Goals as goal

pub anchor_between-requires-clause-history : goal.anchor_between-requires-clause-history
anchor_between-requires-clause-history g c =
    let hash : Hash = g.H.Hash32.digest c.args.hash.now in
    let s : OpenStore = c.args.self.now in
    let m = c.requires.up.0 in
    let u = c.requires.up.1 in
    (m.placed, placed-history hash s m u, c.headers.ensures ∙ headers-are hash s m u, tree-leaves hash s m u)

pub anchor_between-requires-clause-within : goal.anchor_between-requires-clause-within
anchor_between-requires-clause-within g c =
    let hash : Hash = g.H.Hash32.digest c.args.hash.now in
    let u = c.requires.up.1 in
    let count : length c.headers.result.now ≡ length c.requires.up.0.placed =
    ap (λ (l : List Header). length l) c.headers.ensures ∙ headers-count hash c.args.self.now c.requires.up.0 u in
    omega (arith, count, c.requires.between.within, u.durable, u.order.durable_placed)

pub anchor_between-requires-clause-tree : goal.anchor_between-requires-clause-tree
anchor_between-requires-clause-tree g c =
    let hash : Hash = g.H.Hash32.digest c.args.hash.now in
    let s : OpenStore = c.args.self.now in
    let m = c.requires.up.0 in
    let u = c.requires.up.1 in
    let b = c.requires.between in
    subst (λ (l : List Header). (header_at l c.args.target).bl_tx_id ≤ s.tree.size) (sym c.headers.ensures)
    (trees-within hash s m u c.args.target (omega (arith, b.some, b.order)) (omega (arith, b.within, u.durable, u.order.durable_placed)))

pub returns : goal.returns
returns g c m u =
    let hash : Hash = g.H.Hash32.digest c.args.hash.now in
    let s : OpenStore = c.args.self.now in
    let b = between-up hash s m u c.args.source c.args.target c.requires.between in
    IfOk-weaker c.anchor_between.result _ _
    (λ anchor built. built m.placed (placed-history hash s m u) (c.headers.ensures ∙ headers-are hash s m u)
    ∙ sym (front-anchor hash m.placed c.args.source c.args.target c.args.target (placed-history hash s m u) b.some b.order (omega arith) (omega (arith, b.within, u.order.durable_placed))))
    c.anchor_between.ensures.value
