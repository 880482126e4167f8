use Rattle.std.proofs.Common.{◌≡◌, ◌≤◌, ◌-◌, length}
use Rattle.im_opening.specs.Stretches.{IsLeft, IsReadTo}
use Rattle.im_opening.proofs.stretches.read_stretch.Given as goal

abbrev pub invariant-batches : goal.invariant-batches
invariant-batches g l = record {
  told : g.D.Disk.told l.disk ≡ g.D.Disk.told l.initial.disk;
  faults : g.D.Disk.faults l.disk ≡ g.D.Disk.faults l.initial.disk;
  on : l.initial.reading.gate ≤ l.reading.gate;
  reached : IsReadTo (g.H.Hash32.digest l.hash) l.commits l.source.log.now l.reading;
  left : IsLeft (g.H.Hash32.digest l.hash) (g.D.Disk.told l.initial.disk) l.reading;
}

abbrev pub decreases-batches : goal.decreases-batches
decreases-batches g l = length l.commits - l.reading.gate
