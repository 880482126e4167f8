use Rattle.std.proofs.Common.{◌≡◌, map}
use Rattle.im_dealing.proofs.dealing.in_hand.Given as goal

abbrev pub invariant-loop-hand : goal.invariant-loop-hand
invariant-loop-hand l = l.lines.items ≡ map (λ hand. hand.items) l.yielded
