use Rattle.im_hash_ahead.specs.Facts.{AreFacts}
use Rattle.im_hash_ahead.proofs.notes.root_over.Given as goal

abbrev pub invariant-loop-level : goal.invariant-loop-level
invariant-loop-level g l = AreFacts (g.H.Hash32.digest l.hash) l.initial.facts → AreFacts (g.H.Hash32.digest l.hash) l.facts
