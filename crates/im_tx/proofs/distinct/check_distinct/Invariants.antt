use Rattle.im_octet.specs.Places.{place_in}
use Rattle.im_tx.proofs.PlaceLemmas.{ArePlaces}
use Rattle.im_tx.proofs.distinct.check_distinct.Given as goal

abbrev pub invariant-loop-place : goal.invariant-loop-place
invariant-loop-place l = ArePlaces l.drafts l.place (place_in l.places)
