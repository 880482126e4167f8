use Rattle.std.proofs.Common.{take}
use Rattle.std.specs.List.{All}
use Rattle.im_wire.specs.Fits.{IsDigest}
use Rattle.im_wire.proofs.fits.digests_fit.Given as goal

abbrev pub invariant-loop-digest : goal.invariant-loop-digest
invariant-loop-digest l = All IsDigest (take l.digest-index l.digests)
