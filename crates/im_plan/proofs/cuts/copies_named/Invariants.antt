use Rattle.std.proofs.Common.{◌≡◌, map, take}
use Rattle.im_sqlmodel.specs.Conditions.{value_named}
use Rattle.im_plan.proofs.cuts.copies_named.Given as goal

abbrev pub invariant-loop-name : goal.invariant-loop-name
invariant-loop-name l = l.shown.items ≡ map (value_named l.scope l.row) (take l.name-index l.names)
