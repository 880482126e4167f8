use Rattle.std.proofs.Common.{◌≡◌, arith}
use Rattle.im_expr.proofs.LevelLemmas.{meets-none, meets-step}
use Rattle.im_expr.proofs.met.+met.Goals as goal

pub meets_to-returns-then-levels-eq0 : goal.meets_to-returns-then-levels-eq0
meets_to-returns-then-levels-eq0 t c =
    let none : c.args.levels ≡ 0 = omega arith in
    meets-none c.args.levels c.args.scope.now c.args.row.now c.args.condition.now none

pub meets_to-returns : goal.meets_to-returns
meets_to-returns t c = rw (meets-step c.args.levels c.args.scope.now c.args.row.now c.args.condition.now (omega arith)) c.meets_by.ensures
