use Rattle.std.proofs.Common.{◌≡◌}
use Rattle.im_opening.proofs.fetches.fetch_record.Given as goal

abbrev pub invariant-loop-i : goal.invariant-loop-i
invariant-loop-i g l = record {
  told : g.D.Disk.told l.disk ≡ g.D.Disk.told l.initial.disk;
  faults : g.D.Disk.faults l.disk ≡ g.D.Disk.faults l.initial.disk;
}
