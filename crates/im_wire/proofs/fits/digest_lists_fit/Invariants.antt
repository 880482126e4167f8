use Rattle.std.proofs.Common.{take}
use Rattle.std.specs.List.{All}
use Rattle.im_wire.specs.Fits.{AreDigestOctets}
use Rattle.im_wire.proofs.fits.digest_lists_fit.Given as goal

abbrev pub invariant-loop-digests : goal.invariant-loop-digests
invariant-loop-digests l = All AreDigestOctets (take l.digests-index l.lists)
