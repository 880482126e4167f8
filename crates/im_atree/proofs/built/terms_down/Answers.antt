use Rattle.std.proofs.Common.{◌≡◌, ◌++◌, ◌∷◌, [], length, arith, ap, ◌∙◌}
use Rattle.im_levels.proofs.GrowthLemmas.{down-ends}
use Rattle.im_atree.proofs.built.terms_down.Goals as goal

pub returns : goal.returns
returns g c =
    let whole : c.loop-older.older ≡ length c.loop-older.part.now = omega (arith, c.loop-older.invariant.within, c.loop-older-test.false) in
    down-ends (g.H.Hash32.digest c.args.hash.now) c.args.leaves.now c.loop-older.part.now c.loop-older.terms.items c.push-2.new.self.items c.args.m c.loop-older.older
    c.loop-older.invariant.some whole c.loop-older.invariant.first c.loop-older.invariant.rest
    (c.in_ok-push-2.ensures.items ∙ ap (λ x. c.loop-older.terms.items ++ x ∷ []) c.root-2.ensures)
