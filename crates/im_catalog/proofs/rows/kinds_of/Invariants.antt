use Rattle.std.proofs.Common.{◌≡◌, map, take}
use Rattle.im_sqltype.specs.Kinds.{kind_of}
use Rattle.im_catalog.proofs.rows.kinds_of.Given as goal

abbrev pub invariant-loop-column : goal.invariant-loop-column
invariant-loop-column l = l.kinds.items ≡ map (λ c. kind_of c.holds) (take l.column-index l.columns)
