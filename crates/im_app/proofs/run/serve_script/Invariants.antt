use Rattle.im_app.proofs.run.serve_script.Given as goal

-- the store's name
abbrev pub ghosts-serve : goal.ghosts-serve
ghosts-serve g a = record {
  table = a.opened.table;
  found = a.opened.found;
  logs = a.opened.logs;
  digest = g.H.Hash32.digest a.opened.hash;
  synced = g.D.Disk.told a.opened.disk;
  faults = g.D.Disk.faults a.opened.disk;
  time = g.C.Clock.constant a.opened.clock;
  given = g.C.Clock.given a.opened.clock;
}
