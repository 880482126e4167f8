use Rattle.std.proofs.Common.{◌<◌, ◌≤◌, ◌/◌, length, arith}
use Rattle.im_index.proofs.SettleLemmas.{settling-end, settling-first, settling-next, settling-stop}
use Rattle.im_index.proofs.merging.settle.Goals as goal

pub loop-run-init : goal.loop-run-init
loop-run-init c = settling-first c.args.runs.now c.args.newest

pub loop-run-preserved : goal.loop-run-preserved
loop-run-preserved c =
    let short : length c.in-Some.run'.now / 2 < length c.loop-run.last = omega arith in
    settling-next c.args.runs.now c.loop-run.older.now c.in-Some.before.now c.args.newest c.loop-run.last c.in-Some.run'.now c.in_ok-next.next
    c.loop-run.invariant c.in-Some.ensures.cases.0 short c.in_ok-next.ensures

pub returns-then-is_long-clause-holds : goal.returns-then-is_long-clause-holds
returns-then-is_long-clause-holds c =
    let long : length c.loop-run.last ≤ length c.in-Some.run'.now / 2 = omega arith in
    (settling-stop c.args.runs.now c.loop-run.older.now c.in-Some.before.now c.args.newest c.loop-run.last c.in-Some.run'.now c.loop-run.invariant c.in-Some.ensures.cases.0 long).holds

pub returns-then-is_long-clause-halving : goal.returns-then-is_long-clause-halving
returns-then-is_long-clause-halving c =
    let long : length c.loop-run.last ≤ length c.in-Some.run'.now / 2 = omega arith in
    (settling-stop c.args.runs.now c.loop-run.older.now c.in-Some.before.now c.args.newest c.loop-run.last c.in-Some.run'.now c.loop-run.invariant c.in-Some.ensures.cases.0 long).halving

pub returns-then-is_long-clause-lengths : goal.returns-then-is_long-clause-lengths
returns-then-is_long-clause-lengths c =
    let long : length c.loop-run.last ≤ length c.in-Some.run'.now / 2 = omega arith in
    (settling-stop c.args.runs.now c.loop-run.older.now c.in-Some.before.now c.args.newest c.loop-run.last c.in-Some.run'.now c.loop-run.invariant c.in-Some.ensures.cases.0 long).counts

pub returns-clause-holds : goal.returns-clause-holds
returns-clause-holds c = (settling-end _ _ _ _ c.loop-run.invariant c.in_default.ensures.cases).holds

pub returns-clause-halving : goal.returns-clause-halving
returns-clause-halving c = (settling-end _ _ _ _ c.loop-run.invariant c.in_default.ensures.cases).halving

pub returns-clause-lengths : goal.returns-clause-lengths
returns-clause-lengths c = (settling-end _ _ _ _ c.loop-run.invariant c.in_default.ensures.cases).counts
