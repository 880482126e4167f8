use Rattle.std.proofs.Common.{◌<◌, ◌≤◌, ◌-◌, length}
use Rattle.im_index.proofs.blocks.end_of.Given as goal

abbrev pub invariant-passing : goal.invariant-passing
invariant-passing l = record {
  some : l.from < l.end;
  within : l.end ≤ length l.versions;
}

abbrev pub decreases-passing : goal.decreases-passing
decreases-passing l = length l.versions - l.end
