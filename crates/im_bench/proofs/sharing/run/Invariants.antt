use Rattle.std.proofs.Common.{None, Some}
use Rattle.im_bench.proofs.sharing.run.Given as goal

-- the store's name
abbrev pub ghosts-run_threads : goal.ghosts-run_threads
ghosts-run_threads g a = record {
  table = a.opened.table;
  found = a.opened.found;
  logs = a.opened.logs;
  digest = g.H.Hash32.digest a.opened.hash;
  synced = g.D.Disk.told a.opened.disk;
  faults = g.D.Disk.faults a.opened.disk;
  time = Some a.opened.clock.time;
  given = None;
}
