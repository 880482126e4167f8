use Rattle.std.proofs.Common.{[], None, Some, pos}
use Rattle.im_digest.specs.Digests.{sum_digest}
use Rattle.im_tests_seats.proofs.seats.run.Given as goal

abbrev pub ghosts-run_named : goal.ghosts-run_named
ghosts-run_named g a = record {
  table = a.tip.table;
  found = [];
  logs = a.tip.logs;
  digest = sum_digest;
  synced = g.D.Disk.told a.journal.disk;
  faults = g.D.Disk.faults a.journal.disk;
  time = Some (pos 0);
  given = None;
}
