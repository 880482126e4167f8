use Rattle.std.proofs.Common.{All}
use Rattle.im_digest.specs.Digests.{Hash}
use Rattle.im_hash_ahead.specs.Facts.{AreFacts}
use Rattle.im_hash_ahead.proofs.near.place.Given as goal

abbrev pub invariant-loop-part : goal.invariant-loop-part
invariant-loop-part l = (hash : Hash) → All (λ part. AreFacts hash part.facts) l.yielded
    → All (λ facts. AreFacts hash facts) l.initial.near.items → All (λ facts. AreFacts hash facts) l.near.items
