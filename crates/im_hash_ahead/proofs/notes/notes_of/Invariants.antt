use Rattle.im_hash_ahead.specs.Facts.{AreFacts}
use Rattle.im_hash_ahead.proofs.notes.notes_of.Given as goal

abbrev pub invariant-loop-lead : goal.invariant-loop-lead
invariant-loop-lead g l = AreFacts (g.H.Hash32.digest l.hash) l.facts
