use Rattle.std.proofs.Common.{◌≡◌, map, take}
use Rattle.im_sqlmodel.specs.Selects.{columns_shown}
use Rattle.im_plan.proofs.cuts.shown_rows.Given as goal

abbrev pub invariant-loop-row : goal.invariant-loop-row
invariant-loop-row l = l.shown.items ≡ map (columns_shown l.scope l.select.columns) (take l.row-index l.kept)
