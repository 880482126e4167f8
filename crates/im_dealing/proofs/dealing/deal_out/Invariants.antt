use Rattle.std.proofs.Common.{map}
use Rattle.im_dealing.specs.Dealing.{AreDealt}
use Rattle.im_dealing.proofs.dealing.deal_out.Given as goal

abbrev pub invariant-loop-line : goal.invariant-loop-line
invariant-loop-line l = AreDealt l.names l.yielded l.order.items (map (λ hand. hand.items) l.hands)
