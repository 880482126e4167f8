use Rattle.std.proofs.Common.{◌≡◌, map, take}
use Rattle.im_hashed.proofs.places.digests_of.Given as goal

abbrev pub invariant-loop-octets : goal.invariant-loop-octets
invariant-loop-octets g l = l.digests.items ≡ map (g.H.Hash32.digest l.hash) (take l.octets-index l.strings)
