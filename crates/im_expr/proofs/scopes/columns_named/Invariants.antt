use Rattle.std.proofs.Common.{◌≡◌, map, take}
use Rattle.im_sqlmodel.specs.Conditions.{named_of}
use Rattle.im_expr.proofs.scopes.columns_named.Given as goal

abbrev pub invariant-loop-column : goal.invariant-loop-column
invariant-loop-column l = l.named.items ≡ map named_of (take l.column-index l.columns)
