use Rattle.std.proofs.Common.{◌-◌}
use Rattle.im_index.proofs.PlaceLemmas.{IsSearch}
use Rattle.im_index.proofs.search.place.Given as goal

abbrev pub invariant-halving : goal.invariant-halving
invariant-halving g l = IsSearch l.run l.key l.n l.low l.high l.fn.steps l.steps

abbrev pub decreases-halving : goal.decreases-halving
decreases-halving g l = l.high - l.low
