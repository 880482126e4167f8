use Rattle.std.proofs.Common.{◌∙◌, ap, arith}
use Rattle.im_table.specs.declared.view.AllLooks.{AllLooks}
use Rattle.im_store.proofs.GainLemmas.{follows_placed, follows_then}
use Rattle.im_store.proofs.SettleLemmas.{beyond_settles, ok_settles, passed_gains, passed_settles, passed_stop}
use Rattle.im_store.proofs.store.Store.settle.Goals as goal

-- fewer are placed
pub returns-then-placed-n-clause-gains : goal.returns-then-placed-n-clause-gains
returns-then-placed-n-clause-gains g c =
    let show = c.show-placed in
    (follows_placed show.result c.args.pass.now show.new.pass show.ensures.later show.ensures.adds show.ensures.looks).gains

pub returns-then-placed-n-clause-answer : goal.returns-then-placed-n-clause-answer
returns-then-placed-n-clause-answer g c =
    let show = c.show-placed in
    beyond_settles (Unit {0}) c.args.pass.now show.new.pass show.result c.args.n show.ensures.looks (omega arith)

pub returns-then-placed-n-clause-failed : goal.returns-then-placed-n-clause-failed
returns-then-placed-n-clause-failed g c going = ap (λ (l : AllLooks). l.failed) c.show-placed.ensures.looks

-- the wait is refused
pub returns-in_err-settle_to-clause-later : goal.returns-in_err-settle_to-clause-later
returns-in_err-settle_to-clause-later g c =
    let show = c.show-placed in
    (follows_then _ c.args.pass.now show.new.pass c.settle_to.new.pass
    (follows_placed show.result c.args.pass.now show.new.pass show.ensures.later show.ensures.adds show.ensures.looks) c.settle_to.ensures.follows).later

pub returns-in_err-settle_to-clause-gains : goal.returns-in_err-settle_to-clause-gains
returns-in_err-settle_to-clause-gains g c =
    let show = c.show-placed in
    passed_gains (Unit {0}) _ c.args.pass.now c.settle_to.new.pass c.in_err-settle_to.field-0.0 c.from_residual.result c.from_residual.ensures.1
    (follows_then _ c.args.pass.now show.new.pass c.settle_to.new.pass
    (follows_placed show.result c.args.pass.now show.new.pass show.ensures.later show.ensures.adds show.ensures.looks) c.in_err-settle_to.ensures.follows).gains

pub returns-in_err-settle_to-clause-answer : goal.returns-in_err-settle_to-clause-answer
returns-in_err-settle_to-clause-answer g c =
    let show = c.show-placed in
    let wait = c.settle_to in
    passed_settles _ c.args.pass.now show.new.pass wait.new.pass show.result c.args.n _ c.in_err-settle_to.field-0.0 c.from_residual.result c.from_residual.ensures.1
    show.ensures.later show.ensures.looks (omega arith) wait.ensures.follows wait.ensures.placed c.in_err-settle_to.ensures.fewer c.in_err-settle_to.ensures.err

pub returns-in_err-settle_to-clause-failed : goal.returns-in_err-settle_to-clause-failed
returns-in_err-settle_to-clause-failed g c going =
    c.in_err-settle_to.ensures.failed (passed_stop (Unit {0}) _ c.in_err-settle_to.field-0.0 c.from_residual.result c.from_residual.ensures.1 going)
    ∙ ap (λ (l : AllLooks). l.failed) c.show-placed.ensures.looks

-- they are durable
pub returns-clause-later : goal.returns-clause-later
returns-clause-later g c =
    let show = c.show-placed in
    (follows_then _ c.args.pass.now show.new.pass c.settle_to.new.pass
    (follows_placed show.result c.args.pass.now show.new.pass show.ensures.later show.ensures.adds show.ensures.looks) c.settle_to.ensures.follows).later

pub returns-clause-gains : goal.returns-clause-gains
returns-clause-gains g c =
    let show = c.show-placed in
    (follows_then 0 c.args.pass.now show.new.pass c.settle_to.new.pass
    (follows_placed show.result c.args.pass.now show.new.pass show.ensures.later show.ensures.adds show.ensures.looks) c.in_ok-settle_to.ensures.follows).gains

pub returns-clause-answer : goal.returns-clause-answer
returns-clause-answer g c =
    let show = c.show-placed in
    let wait = c.settle_to in
    ok_settles {T = Unit {0}} c.args.pass.now show.new.pass wait.new.pass show.result c.args.n _ tt show.ensures.looks (omega arith) wait.ensures.follows wait.ensures.placed
    c.in_ok-settle_to.ensures.ok

pub returns-clause-failed : goal.returns-clause-failed
returns-clause-failed g c going = c.in_ok-settle_to.ensures.failed (λ h. h) ∙ ap (λ (l : AllLooks). l.failed) c.show-placed.ensures.looks
