use Rattle.im_sqlsound.proofs.HangLemmas.{Apart_from}
use Rattle.im_sqlsound.proofs.TestLemmas.{test-fails, test-holds, test-not, all-step, all-fails, all-end}
use Rattle.im_sqlsound.proofs.numbered.is_free.Goals as goal

pub loop-found-preserved : goal.loop-found-preserved
loop-found-preserved c =
    all-step (Apart_from c.args.tid) c.args.tables.now c.loop-found.found-index c.found-item.result c.loop-found-test.true c.found-item.is
    (test-not c.has_number.result c.has_number.ensures c.if-has_number.false) c.loop-found.invariant

pub returns-then-has_number : goal.returns-then-has_number
returns-then-has_number c =
    test-fails (all-fails (Apart_from c.args.tid) c.args.tables.now c.loop-found.found-index c.found-item.result c.loop-found-test.true c.found-item.is
    (λ other. other (c.has_number.ensures.0 c.if-has_number.true)))

pub returns : goal.returns
returns c = test-holds (all-end (Apart_from c.args.tid) c.args.tables.now c.loop-found.found-index c.loop-found-test.false c.loop-found.invariant)
