use Rattle.std.proofs.Common.{All}
use Rattle.im_digest.specs.Digests.{Hash}
use Rattle.im_hash_ahead.specs.Facts.{AreFacts}
use Rattle.im_hash_ahead.proofs.rows.Rows.add.Given as goal

abbrev pub invariant-loop-part : goal.invariant-loop-part
invariant-loop-part l = (hash : Hash) → All (λ facts. AreFacts hash facts.items) l.yielded → AreFacts hash l.initial.far → AreFacts hash l.far
