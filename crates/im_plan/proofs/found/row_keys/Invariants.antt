use Rattle.std.proofs.Common.{map, take}
use Rattle.std.specs.List.{AllZip}
use Rattle.im_plan.specs.Plans.{IsKeyOfEntry}
use Rattle.im_plan.proofs.found.row_keys.Given as goal

-- the key of the row of each entry so far
abbrev pub invariant-loop-entry : goal.invariant-loop-entry
invariant-loop-entry l = AllZip (IsKeyOfEntry l.table l.index) (take l.entry-index l.entries) (map (λ k. k.items) l.keys.items)
