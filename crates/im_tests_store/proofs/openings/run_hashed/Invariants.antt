use Rattle.std.proofs.Common.{None, Some}
use Rattle.im_digest.specs.Digests.{sum_digest}
use Rattle.im_disk.specs.Recorded.{told_by}
use Rattle.im_tests_store.proofs.openings.run_hashed.Given as goal

-- the store's name
abbrev pub ghosts-grown : goal.ghosts-grown
ghosts-grown g a = record {
  table = a.opened.table;
  found = a.opened.found;
  logs = a.opened.logs;
  digest = sum_digest;
  synced = Some (told_by a.opened.disk);
  faults = a.opened.disk.faults;
  time = Some a.opened.clock.time;
  given = None;
}
