use Rattle.im_sqlsound.specs.Sounding.{IsSoundAlone}
use Rattle.im_sqlsound.proofs.TestLemmas.{test-fails, test-holds, test-not, all-step, all-fails, all-end}
use Rattle.im_sqlsound.proofs.marked.are_each_sound.Goals as goal

pub loop-found-preserved : goal.loop-found-preserved
loop-found-preserved c =
    all-step (IsSoundAlone c.args.changes.now) c.args.tables.now c.loop-found.found-index c.found-item.result c.loop-found-test.true c.found-item.is
    (c.in_ok-stands.ensures.0 c.if-not-stands.false) c.loop-found.invariant

pub returns-then-not-stands : goal.returns-then-not-stands
returns-then-not-stands c =
    test-fails (all-fails (IsSoundAlone c.args.changes.now) c.args.tables.now c.loop-found.found-index c.found-item.result c.loop-found-test.true c.found-item.is
    (test-not c.in_ok-stands.stands c.in_ok-stands.ensures c.if-not-stands.true))

pub returns : goal.returns
returns c = test-holds (all-end (IsSoundAlone c.args.changes.now) c.args.tables.now c.loop-found.found-index c.loop-found-test.false c.loop-found.invariant)
