use Rattle.std.proofs.Common.{All}
use Rattle.im_hash_ahead.specs.Facts.{AreFacts}
use Rattle.im_hash_ahead.proofs.near.parts_in_turn.Given as goal

abbrev pub invariant-loop-i : goal.invariant-loop-i
invariant-loop-i g l = All (λ part. AreFacts (g.H.Hash32.digest l.hash) part.facts) l.parts.items
