use Rattle.im_sqlsound.specs.Sounding.{IsMarkShown}
use Rattle.im_sqlsound.proofs.TestLemmas.{test-fails, test-holds, test-not, all-step, all-fails, all-end}
use Rattle.im_sqlsound.proofs.marked.are_marks.Goals as goal

pub loop-mark-preserved : goal.loop-mark-preserved
loop-mark-preserved c =
    all-step (IsMarkShown c.args.tables.now) c.args.marks.now c.loop-mark.mark-index c.mark-item.result c.loop-mark-test.true c.mark-item.is
    (c.in_ok-stands.ensures.0 c.if-not-stands.false) c.loop-mark.invariant

pub returns-then-not-stands : goal.returns-then-not-stands
returns-then-not-stands c =
    test-fails (all-fails (IsMarkShown c.args.tables.now) c.args.marks.now c.loop-mark.mark-index c.mark-item.result c.loop-mark-test.true c.mark-item.is
    (test-not c.in_ok-stands.stands c.in_ok-stands.ensures c.if-not-stands.true))

pub returns : goal.returns
returns c = test-holds (all-end (IsMarkShown c.args.tables.now) c.args.marks.now c.loop-mark.mark-index c.loop-mark-test.false c.loop-mark.invariant)
