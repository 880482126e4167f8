use Rattle.std.proofs.Common.{◌-◌, true, length}
use Rattle.im_sqlsound.proofs.HangLemmas.{told-step, told-fails, told-end}
use Rattle.im_sqlsound.proofs.TestLemmas.{test-fails, test-holds, test-not}
use Rattle.im_sqlsound.proofs.numbered.are_told.Goals as goal

pub loop-at-preserved : goal.loop-at-preserved
loop-at-preserved c =
    let fs = c.args.tables.now in
    let at = c.loop-at.at in
    let f = c.index-tables-at.result in
    told-step fs (length fs) at f c.loop-at-test.true c.index-tables-at.is (c.is_numbered.ensures.0 c.if-not-is_numbered.false) c.loop-at.invariant

pub returns-then-not-is_numbered : goal.returns-then-not-is_numbered
returns-then-not-is_numbered c =
    let fs = c.args.tables.now in
    let at = c.loop-at.at in
    let f = c.index-tables-at.result in
    test-fails (told-fails fs (length fs) at f c.loop-at-test.true c.index-tables-at.is (test-not c.is_numbered.result c.is_numbered.ensures c.if-not-is_numbered.true))

pub returns : goal.returns
returns c = test-holds (told-end c.args.tables.now (length c.args.tables.now) c.loop-at.at c.loop-at-test.false c.loop-at.invariant)
