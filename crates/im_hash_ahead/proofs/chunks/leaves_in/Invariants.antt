use Rattle.im_hash_ahead.specs.Facts.{AreFacts}
use Rattle.im_hash_ahead.proofs.chunks.leaves_in.Given as goal

abbrev pub invariant-loop-leaf : goal.invariant-loop-leaf
invariant-loop-leaf g l = AreFacts (g.H.Hash32.digest l.hash) l.facts.items
