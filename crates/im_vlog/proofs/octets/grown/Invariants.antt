use Rattle.std.proofs.Common.{◌≡◌, ◌≤◌, ◌+◌, ◌-◌, ◌^◌, drop, min}
use Rattle.im_vlog.specs.Sizes.{octets_in}
use Rattle.im_vlog.proofs.octets.grown.Given as goal

abbrev pub invariant-loop-value : goal.invariant-loop-value
invariant-loop-value l = record {
  total : min (l.size + octets_in l.log (drop l.value-index l.refs)) (2 ^ 64 - 1) ≡ min (l.start + octets_in l.log l.refs) (2 ^ 64 - 1);
  fits : l.size ≤ 2 ^ 64 - 1;
}
