use Rattle.im_hash_ahead.specs.Facts.{AreFacts}
use Rattle.im_hash_ahead.proofs.notes.note_entries.Given as goal

abbrev pub invariant-loop-i : goal.invariant-loop-i
invariant-loop-i g l = AreFacts (g.H.Hash32.digest l.hash) l.initial.facts → AreFacts (g.H.Hash32.digest l.hash) l.facts
