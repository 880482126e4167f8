use Rattle.std.proofs.Common.{◌≡◌, ◌≤◌, ◌+◌, ◌-◌, ◌^◌, drop, min}
use Rattle.im_format.specs.Places.{refs_of}
use Rattle.im_vlog.specs.Sizes.{octets_in}
use Rattle.im_vlog.proofs.octets.size_in.Given as goal

abbrev pub invariant-loop-record : goal.invariant-loop-record
invariant-loop-record l = record {
  total : min (l.size + octets_in l.log (refs_of (drop l.record-index l.records))) (2 ^ 64 - 1)
      ≡ min (octets_in l.log (refs_of l.records)) (2 ^ 64 - 1);
  fits : l.size ≤ 2 ^ 64 - 1;
}
