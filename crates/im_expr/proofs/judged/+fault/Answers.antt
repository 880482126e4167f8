use Rattle.std.proofs.Common.{◌≡◌, arith}
use Rattle.im_expr.proofs.LevelLemmas.{fault-none, fault-step}
use Rattle.im_expr.proofs.judged.+fault.Goals as goal

pub fault_to-returns-then-levels-eq0 : goal.fault_to-returns-then-levels-eq0
fault_to-returns-then-levels-eq0 t c =
    let none : c.args.levels ≡ 0 = omega arith in
    fault-none c.args.levels c.args.scope.now c.args.condition.now none

pub fault_to-returns : goal.fault_to-returns
fault_to-returns t c = rw (fault-step c.args.levels c.args.scope.now c.args.condition.now (omega arith)) c.fault_by.ensures
