use Rattle.std.proofs.Common.{◌≡◌, drop}
use Rattle.im_sqlmodel.specs.Writes.{count_fault}
use Rattle.im_sql.proofs.judged.count_fault.Given as goal

-- each row so far has so many values
abbrev pub invariant-loop-row : goal.invariant-loop-row
invariant-loop-row l = count_fault l.row l.want (drop l.row l.rows) ≡ count_fault 0 l.want l.rows
