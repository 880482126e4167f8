use Rattle.std.proofs.Common.{◌≡◌, take}
use Rattle.im_index.proofs.merging.shares_of.Given as goal

abbrev pub invariant-loop-run : goal.invariant-loop-run
invariant-loop-run l = l.shares.items ≡ take l.run-index l.runs
