use Rattle.std.proofs.Common.{◌≡◌, ◌+◌, ◌*◌, drop}
use Rattle.std.specs.List.{list_any, list_all}
use Rattle.im_sqlmodel.specs.Conditions.{meets_to}
use Rattle.im_expr.proofs.met.+met.Given as goal

abbrev pub decreases-meets_to : goal.decreases-meets_to
decreases-meets_to l = 4 * l.levels

abbrev pub decreases-any_met : goal.decreases-any_met
decreases-any_met l = 4 * l.levels + 1

abbrev pub decreases-all_met : goal.decreases-all_met
decreases-all_met l = 4 * l.levels + 1

abbrev pub decreases-meets_by : goal.decreases-meets_by
decreases-meets_by l = 4 * l.levels + 2

abbrev pub invariant-any_met-loop-condition : goal.invariant-any_met-loop-condition
invariant-any_met-loop-condition l =
    list_any (meets_to l.levels l.scope l.row) (drop l.condition-index l.conditions) ≡ list_any (meets_to l.levels l.scope l.row) l.conditions

abbrev pub invariant-all_met-loop-condition : goal.invariant-all_met-loop-condition
invariant-all_met-loop-condition l =
    list_all (meets_to l.levels l.scope l.row) (drop l.condition-index l.conditions) ≡ list_all (meets_to l.levels l.scope l.row) l.conditions
