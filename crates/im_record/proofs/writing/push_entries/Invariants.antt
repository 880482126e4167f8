use Rattle.std.proofs.Common.{◌≡◌, ◌++◌, List, ℕ, drop}
use Rattle.im_format.specs.Records.{entries_octets}
use Rattle.im_record.proofs.writing.push_entries.Given as goal

abbrev pub invariant-loop-i : goal.invariant-loop-i
invariant-loop-i l = record {
  same : l.out.items ++ entries_octets (drop l.i l.entries) (drop l.i l.refs) ≡ l.initial.out.items ++ entries_octets l.entries l.refs;
  grown : (part : List ℕ) × (l.out.items ≡ l.initial.out.items ++ part);
}
