use Rattle.std.proofs.Common.{All}
use Rattle.im_digest.specs.Digests.{Hash}
use Rattle.im_hash_ahead.specs.Facts.{AreFacts}
use Rattle.im_hash_ahead.proofs.near.no_facts.Given as goal

abbrev pub invariant-loop-i : goal.invariant-loop-i
invariant-loop-i l = (hash : Hash) → All (λ facts. AreFacts hash facts) l.near.items
