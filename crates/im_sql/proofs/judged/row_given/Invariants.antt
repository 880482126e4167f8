use Rattle.std.proofs.Common.{◌≡◌, map, take}
use Rattle.im_sqlmodel.specs.Conditions.{literal_value}
use Rattle.im_sqlmodel.specs.Writes.{value_given}
use Rattle.im_sql.proofs.judged.row_given.Given as goal

abbrev pub invariant-loop-column : goal.invariant-loop-column
invariant-loop-column l = l.row.items ≡ map (λ c. value_given (map (λ n. n.now) l.names) (map literal_value l.literals) c.name) (take l.column-index l.columns)
