use Rattle.std.proofs.Common.{◌≡◌, ◌+◌, ◌*◌, drop}
use Rattle.im_sqlmodel.specs.Conditions.{fault_to}
use Rattle.im_sqlmodel.specs.Options.{first_found}
use Rattle.im_expr.proofs.judged.+fault.Given as goal

abbrev pub decreases-fault_to : goal.decreases-fault_to
decreases-fault_to l = 4 * l.levels

abbrev pub decreases-first_fault : goal.decreases-first_fault
decreases-first_fault l = 4 * l.levels + 1

abbrev pub decreases-fault_by : goal.decreases-fault_by
decreases-fault_by l = 4 * l.levels + 2

abbrev pub invariant-first_fault-loop-condition : goal.invariant-first_fault-loop-condition
invariant-first_fault-loop-condition l =
    first_found (fault_to l.levels l.scope) (drop l.condition-index l.conditions) ≡ first_found (fault_to l.levels l.scope) l.conditions
