use Rattle.im_octet.specs.Places.{place_in}
use Rattle.im_hashed.proofs.PlaceLemmas.{ArePlaces}
use Rattle.im_hashed.proofs.pairs.find_pair.Given as goal

abbrev pub invariant-loop-k : goal.invariant-loop-k
invariant-loop-k g l = ArePlaces (g.H.Hash32.digest l.hash) l.strings l.k (place_in l.places)
