use Rattle.im_sqlsound.proofs.HangLemmas.{gapless-step, gapless-fails, gapless-end}
use Rattle.im_sqlsound.proofs.TestLemmas.{test-fails, test-holds, test-not}
use Rattle.im_sqlsound.proofs.numbered.are_gapless.Goals as goal

pub loop-at-preserved : goal.loop-at-preserved
loop-at-preserved c =
    gapless-step c.args.indexes.now c.loop-at.at c.index-indexes-at.result c.loop-at-test.true c.index-indexes-at.is (c.has_iid.ensures.0 c.if-not-has_iid.false) c.loop-at.invariant

pub returns-then-not-has_iid : goal.returns-then-not-has_iid
returns-then-not-has_iid c =
    test-fails (gapless-fails c.args.indexes.now c.loop-at.at c.index-indexes-at.result c.loop-at-test.true c.index-indexes-at.is (test-not c.has_iid.result c.has_iid.ensures c.if-not-has_iid.true))

pub returns : goal.returns
returns c = test-holds (gapless-end c.args.indexes.now c.loop-at.at c.loop-at-test.false c.loop-at.invariant)
