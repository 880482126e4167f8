use Rattle.std.proofs.Common.{arith, ap, ◌∙◌, ◌++◌, ◌∷◌, []}
use Rattle.im_model.specs.Headers.{inner}
use Rattle.im_dual.proofs.KeptLemmas.{terms-next}
use Rattle.im_dual.proofs.build.linear_of.Goals as goal

pub loop-i-preserved : goal.loop-i-preserved
loop-i-preserved g c =
    terms-next (inner (g.H.Hash32.digest c.args.hash.now)) c.args.headers.now c.args.s c.loop-i.i c.index-headers-i.result _ c.loop-i.terms.items c.push-in-loop-i.new.self.items
    c.loop-i.auto.i (omega arith) c.index-headers-i.is c.loop-i.invariant
    (c.in_ok-push-2.ensures.items ∙ ap (λ d. c.loop-i.terms.items ++ d ∷ []) c.inner.ensures)
