use Rattle.std.proofs.Common.{◌≡◌, [], map, flat_map, take}
use Rattle.im_sqlmodel.specs.Writes.{put_all, all_written, deleted}
use Rattle.im_sql.proofs.deleting.erase.Given as goal

abbrev pub invariant-loop-stored : goal.invariant-loop-stored
invariant-loop-stored l = l.writes ≡ put_all (flat_map (λ r. map deleted (all_written l.table l.indexes r.row)) (take l.stored-index l.rows)) []
