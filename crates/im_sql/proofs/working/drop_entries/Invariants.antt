use Rattle.std.proofs.Common.{◌≡◌, map, take}
use Rattle.im_sqlmodel.specs.Writes.{put_all, deleted, entry_written}
use Rattle.im_sql.proofs.working.drop_entries.Given as goal

abbrev pub invariant-loop-index : goal.invariant-loop-index
invariant-loop-index l = l.writes ≡ put_all (map (λ i. deleted (entry_written l.table l.row i)) (take l.index-index l.indexes)) l.initial.writes
