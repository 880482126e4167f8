use Rattle.std.proofs.Common.{◌≡◌, map}
use Rattle.im_sqlmodel.specs.Writes.{put_all, deleted}
use Rattle.im_sql.proofs.deleting.erase_row.Given as goal

abbrev pub invariant-loop-one : goal.invariant-loop-one
invariant-loop-one l = l.writes ≡ put_all (map deleted l.yielded) l.initial.writes
