use Rattle.std.proofs.Common.{List, [], ℕ, subst, arith}
use Rattle.std.specs.List.{All}
use Rattle.std.proofs.lemmas.List.{take_all}
use Rattle.std.proofs.lemmas.List.Elements.{All-more}
use Rattle.im_wire.specs.Fits.{IsDigest, AreDigestOctets}
use Rattle.im_wire.proofs.fits.digests_fit.Goals as goal

pub loop-digest-preserved : goal.loop-digest-preserved
loop-digest-preserved c =
    All-more IsDigest c.args.digests.now c.loop-digest.digest-index [] (omega (arith, c.loop-digest-test.true)) c.loop-digest.invariant c.digest_fits.ensures

pub returns : goal.returns
unfolding AreDigestOctets
returns c =
    subst (λ (ds : List (List ℕ)). All IsDigest ds) (take_all c.loop-digest.digest-index c.args.digests.now (omega (arith, c.loop-digest-test.false))) c.loop-digest.invariant
