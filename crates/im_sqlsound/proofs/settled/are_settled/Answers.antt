use Rattle.std.specs.List.{IsAmong}
use Rattle.im_sqlsound.proofs.TestLemmas.{test-fails, test-holds, test-not, all-step, all-fails, all-end}
use Rattle.im_sqlsound.proofs.settled.are_settled.Goals as goal

pub loop-version-preserved : goal.loop-version-preserved
loop-version-preserved c =
    all-step (IsAmong c.args.shown.now) c.args.before.now c.loop-version.version-index c.version-item.result c.loop-version-test.true c.version-item.is
    (c.is_among.ensures.0 c.if-not-is_among.false) c.loop-version.invariant

pub returns-then-not-is_among : goal.returns-then-not-is_among
returns-then-not-is_among c =
    test-fails (all-fails (IsAmong c.args.shown.now) c.args.before.now c.loop-version.version-index c.version-item.result c.loop-version-test.true c.version-item.is
    (test-not c.is_among.result c.is_among.ensures c.if-not-is_among.true))

pub returns : goal.returns
returns c = test-holds (all-end (IsAmong c.args.shown.now) c.args.before.now c.loop-version.version-index c.loop-version-test.false c.loop-version.invariant)
