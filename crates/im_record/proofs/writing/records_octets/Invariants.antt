use Rattle.std.proofs.Common.{◌≡◌, ◌+◌, ◌++◌, drop}
use Rattle.im_format.specs.Records.{records_octets}
use Rattle.im_record.proofs.writing.records_octets.Given as goal

abbrev pub invariant-loop-kept : goal.invariant-loop-kept
invariant-loop-kept l = record {
  number : l.next ≡ l.id + l.kept-index;
  same : l.out.items ++ records_octets l.next (drop l.kept-index l.records) ≡ records_octets l.id l.records;
}
