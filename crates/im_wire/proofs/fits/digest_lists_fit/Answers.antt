use Rattle.std.proofs.Common.{◌∙◌, subst, arith, List, ℕ}
use Rattle.std.specs.List.{All}
use Rattle.std.proofs.lemmas.List.{take_all}
use Rattle.std.proofs.lemmas.List.Elements.{All-more}
use Rattle.im_wire.specs.Fits.{AreDigestOctets}
use Rattle.im_wire.proofs.fits.digest_lists_fit.Goals as goal

pub loop-digests-preserved : goal.loop-digests-preserved
loop-digests-preserved c =
    All-more AreDigestOctets c.args.lists.now c.loop-digests.digests-index c.digests-item.result (omega (arith, c.loop-digests-test.true)) c.loop-digests.invariant
    (subst (λ (ds : List (List ℕ)). AreDigestOctets ds) (c.as_slice.ensures ∙ c.digests-item.is) c.digests_fit.ensures)

pub returns : goal.returns
returns c =
    subst (λ (dss : List (List (List ℕ))). All AreDigestOctets dss) (take_all c.loop-digests.digests-index c.args.lists.now (omega (arith, c.loop-digests-test.false))) c.loop-digests.invariant
