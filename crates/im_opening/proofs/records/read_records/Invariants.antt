use Rattle.std.proofs.Common.{◌≡◌, ◌≤◌, ◌+◌, length, Some}
use Rattle.im_disk.specs.Disk.{Told, seen}
use Rattle.im_opening.specs.Reach.{Fits, IsWholeProgress, reached_of}
use Rattle.im_opening.proofs.RecordsLeft.{RecordsLeft}
use Rattle.im_opening.proofs.records.read_records.Given as goal

abbrev pub invariant-loop-i : goal.invariant-loop-i
invariant-loop-i g l = record {
  told : g.D.Disk.told l.disk ≡ g.D.Disk.told l.initial.disk;
  faults : g.D.Disk.faults l.disk ≡ g.D.Disk.faults l.initial.disk;
  place : l.progress.place ≤ length l.source.log.now;
  many : length l.progress.alhs.items ≡ length l.initial.progress.alhs.items + l._i;
  fits : Fits (g.H.Hash32.digest l.hash) l.progress;
  whole : IsWholeProgress (g.H.Hash32.digest l.hash) l.progress;
  left : (t : Told) → g.D.Disk.told l.initial.disk ≡ Some t
      → RecordsLeft (g.H.Hash32.digest l.hash) (seen t) l.count l.initial.progress.records.items (reached_of l.initial.progress) l._i
      l.progress.records.items (reached_of l.progress);
}
