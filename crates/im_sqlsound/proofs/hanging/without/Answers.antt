use Rattle.std.proofs.Common.{ℕ, get_or, arith}
use Rattle.im_plan.proofs.BestLemmas.{at-any}
use Rattle.im_sqlsound.proofs.HangLemmas.{sum-step, sum-upto, sum-end}
use Rattle.im_sqlsound.proofs.hanging.without.Goals as goal

-- the number itself
abbrev own : ℕ → ℕ
own k = k

pub loop-count-preserved : goal.loop-count-preserved
loop-count-preserved c =
    let step = sum-step own c.args.counts.now c.loop-count.count-index (get_or c.args.counts.now c.loop-count.count-index 0) c.loop-count-test.true
    (at-any c.args.counts.now c.loop-count.count-index 0 (get_or c.args.counts.now c.loop-count.count-index 0) c.loop-count-test.true) in
    omega (arith, step, c.loop-count.invariant, c.if-left-count.false)

pub returns-then-left-count-clause-none : goal.returns-then-left-count-clause-none
returns-then-left-count-clause-none c =
    let most = sum-upto own c.args.counts.now c.loop-count.count-index (get_or c.args.counts.now c.loop-count.count-index 0) c.loop-count-test.true
    (at-any c.args.counts.now c.loop-count.count-index 0 (get_or c.args.counts.now c.loop-count.count-index 0) c.loop-count-test.true) in
    omega (arith, most, c.loop-count.invariant, c.if-left-count.true)

pub returns-clause-some : goal.returns-clause-some
returns-clause-some c =
    let whole = sum-end own c.args.counts.now c.loop-count.count-index c.loop-count-test.false in
    omega (arith, whole, c.loop-count.invariant)
