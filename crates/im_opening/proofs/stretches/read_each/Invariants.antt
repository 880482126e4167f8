use Rattle.std.proofs.Common.{◌≡◌, ◌-◌, length}
use Rattle.im_hash_ahead.specs.Facts.{IsKnown}
use Rattle.im_opening.specs.Stretches.{IsLeft, IsReadTo}
use Rattle.im_opening.proofs.stretches.read_each.Given as goal

abbrev pub invariant-stretches : goal.invariant-stretches
invariant-stretches g l = record {
  told : g.D.Disk.told l.disk ≡ g.D.Disk.told l.initial.disk;
  faults : g.D.Disk.faults l.disk ≡ g.D.Disk.faults l.initial.disk;
  reached : IsReadTo (g.H.Hash32.digest l.hash) l.commits l.source.log.now l.reading;
  known : IsKnown (g.H.Hash32.digest l.hash) l.hashing.window;
  left : IsLeft (g.H.Hash32.digest l.hash) (g.D.Disk.told l.initial.disk) l.reading;
}

abbrev pub decreases-stretches : goal.decreases-stretches
decreases-stretches g l = length l.commits - l.reading.gate
