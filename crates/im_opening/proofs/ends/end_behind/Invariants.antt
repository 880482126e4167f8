use Rattle.std.proofs.Common.{◌≡◌, ◌≤◌, ◌-◌, ◌^◌, drop, max, min}
use Rattle.im_format.specs.Places.{log_end}
use Rattle.im_opening.proofs.ends.end_behind.Given as goal

abbrev pub invariant-loop-value : goal.invariant-loop-value
invariant-loop-value l = record {
  is : min (max l.end (log_end l.log (drop l.value-index l.refs))) (2 ^ 64 - 1) ≡ min (max l.start (log_end l.log l.refs)) (2 ^ 64 - 1);
  small : l.end ≤ 2 ^ 64 - 1;
}
