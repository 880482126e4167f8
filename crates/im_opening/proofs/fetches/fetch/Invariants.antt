use Rattle.std.proofs.Common.{◌≡◌}
use Rattle.im_opening.proofs.fetches.fetch.Given as goal

abbrev pub invariant-loop-lead : goal.invariant-loop-lead
invariant-loop-lead g l = record {
  told : g.D.Disk.told l.disk ≡ g.D.Disk.told l.initial.disk;
  faults : g.D.Disk.faults l.disk ≡ g.D.Disk.faults l.initial.disk;
}
