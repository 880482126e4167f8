use Rattle.im_digest.specs.Digests.{Hash}
use Rattle.im_hash_ahead.specs.Facts.{AreFacts}
use Rattle.im_hash_ahead.proofs.rows.Rows.add_part.Given as goal

abbrev pub invariant-loop-fact : goal.invariant-loop-fact
invariant-loop-fact l = (hash : Hash) → AreFacts hash l.yielded → AreFacts hash l.initial.far → AreFacts hash l.far
