use Rattle.im_sqlsound.specs.Stepping.{AreMarked}
use Rattle.im_sqlsound.proofs.TestLemmas.{test-fails, test-holds, test-not, all-step, all-fails, all-end}
use Rattle.im_sqlsound.proofs.marked.are_all_marked.Goals as goal

pub loop-found-preserved : goal.loop-found-preserved
loop-found-preserved c =
    all-step (AreMarked c.args.changes.now) c.args.tables.now c.loop-found.found-index c.found-item.result c.loop-found-test.true c.found-item.is
    (c.in_ok-marked.ensures.0 c.if-not-marked.false) c.loop-found.invariant

pub returns-then-not-marked : goal.returns-then-not-marked
returns-then-not-marked c =
    test-fails (all-fails (AreMarked c.args.changes.now) c.args.tables.now c.loop-found.found-index c.found-item.result c.loop-found-test.true c.found-item.is
    (test-not c.in_ok-marked.marked c.in_ok-marked.ensures c.if-not-marked.true))

pub returns : goal.returns
returns c = test-holds (all-end (AreMarked c.args.changes.now) c.args.tables.now c.loop-found.found-index c.loop-found-test.false c.loop-found.invariant)
