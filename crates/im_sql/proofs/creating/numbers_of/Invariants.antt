use Rattle.std.proofs.Common.{◌≡◌, map, take}
use Rattle.im_sqlmodel.specs.Creations.{column_number}
use Rattle.im_sql.proofs.creating.numbers_of.Given as goal

abbrev pub invariant-loop-name : goal.invariant-loop-name
invariant-loop-name l = l.numbers.items ≡ map (column_number (map (λ n. n.now) l.columns)) (take l.name-index l.names)
