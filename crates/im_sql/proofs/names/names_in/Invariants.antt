use Rattle.std.proofs.Common.{◌≡◌, map, take}
use Rattle.im_sql.proofs.names.names_in.Given as goal

abbrev pub invariant-loop-column : goal.invariant-loop-column
invariant-loop-column l = map (λ n. n.now) l.lent.items ≡ map (λ c. c.name) (take l.column-index l.columns)
