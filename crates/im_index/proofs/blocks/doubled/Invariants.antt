use Rattle.std.proofs.Common.{◌<◌, ◌≤◌, ◌-◌, length}
use Rattle.im_index.proofs.BlockLemmas.{AreOwn}
use Rattle.im_index.proofs.blocks.doubled.Given as goal

abbrev pub invariant-doubling : goal.invariant-doubling
invariant-doubling l = record {
  some : 0 < l.count;
  within : l.count ≤ length l.versions;
  own : AreOwn l.key l.versions l.count;
}

abbrev pub decreases-doubling : goal.decreases-doubling
decreases-doubling l = length l.versions - l.count
