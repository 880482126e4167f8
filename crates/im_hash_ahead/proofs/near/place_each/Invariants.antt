use Rattle.std.proofs.Common.{All}
use Rattle.im_digest.specs.Digests.{Hash}
use Rattle.im_hash_ahead.specs.Facts.{AreFacts}
use Rattle.im_hash_ahead.proofs.near.place_each.Given as goal

abbrev pub invariant-loop-parts : goal.invariant-loop-parts
invariant-loop-parts l = (hash : Hash) → All (λ parts. All (λ part. AreFacts hash part.facts) parts.items) l.yielded
    → All (λ facts. AreFacts hash facts) l.initial.near.items → All (λ facts. AreFacts hash facts) l.near.items
