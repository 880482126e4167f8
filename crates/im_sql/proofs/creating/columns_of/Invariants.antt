use Rattle.std.proofs.Common.{◌≡◌, map, take}
use Rattle.im_sqlmodel.specs.Creations.{column_of}
use Rattle.im_sql.proofs.creating.columns_of.Given as goal

abbrev pub invariant-loop-definition : goal.invariant-loop-definition
invariant-loop-definition l = l.columns.items ≡ map column_of (take l.definition-index l.definitions)
