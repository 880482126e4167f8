use Rattle.std.proofs.Common.{◌<◌, length, arith, ap, subst, sym, ◌∙◌}
use Rattle.im_mtree.specs.Kept.{IsFrontier}
use Rattle.im_mtree.proofs.OnesLemmas.{height-some}
use Rattle.im_mtree.proofs.RootLemmas.{frontier-folded}
use Rattle.im_mtree.proofs.frontiers.Frontier.root.Goals as goal

pub overflow_sub-last : goal.overflow_sub-last
overflow_sub-last g c =
    let some = height-some _ _ _ c.self.invariant.0 (ap (λ k. k.size) c.self.view_is) c.requires c.self.invariant.1 in
    omega (arith, some, ap (λ l. length l) c.as_slice-subtrees.ensures.value)

pub bounds-subtrees-last : goal.bounds-subtrees-last
bounds-subtrees-last g c =
    let some = height-some _ _ _ c.self.invariant.0 (ap (λ k. k.size) c.self.view_is) c.requires c.self.invariant.1 in
    omega (arith, some, ap (λ l. length l) c.as_slice-subtrees.ensures.value)

pub returns : goal.returns
returns g c leaves f =
    let some = height-some _ _ _ c.self.invariant.0 (ap (λ k. k.size) c.self.view_is) c.requires c.self.invariant.1 in
    let more : 0 < c.self.inside.size = omega (arith, c.requires, ap (λ k. k.size) c.self.view_is) in
    c.fold.ensures
    ∙ frontier-folded _ leaves c.self.inside.stack.items c.as_slice-subtrees.result.now c.self.inside.size some more c.self.invariant.1
    (subst (λ k. IsFrontier (g.H.Hash32.digest c.args.hash.now) leaves k) (sym c.self.view_is) f) c.as_slice-subtrees.ensures.value
