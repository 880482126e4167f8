use Rattle.std.proofs.Common.{◌≡◌}
use Rattle.im_sqlmodel.specs.Writes.{put_all}
use Rattle.im_sql.proofs.writes.Writes.put_all.Given as goal

-- what was put so far
abbrev pub invariant-loop-one : goal.invariant-loop-one
invariant-loop-one l = l.self ≡ put_all l.yielded l.initial.self
