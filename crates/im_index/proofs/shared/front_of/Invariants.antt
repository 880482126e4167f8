use Rattle.std.proofs.Common.{◌≡◌}
use Rattle.im_index.specs.Fronts.{leading}
use Rattle.im_index.proofs.shared.front_of.Given as goal

abbrev pub invariant-loop-i : goal.invariant-loop-i
invariant-loop-i l = (l.front ≡ leading l.i l.key)
