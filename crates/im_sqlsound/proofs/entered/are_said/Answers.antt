use Rattle.std.proofs.Common.{arith}
use Rattle.im_sqlsound.proofs.HangLemmas.{said-step, said-fails, said-end, said-long}
use Rattle.im_sqlsound.proofs.TestLemmas.{test-fails, test-holds, test-not}
use Rattle.im_sqlsound.proofs.entered.are_said.Goals as goal

pub loop-at-preserved : goal.loop-at-preserved
loop-at-preserved c =
    said-step c.args.shown.now c.args.entries.now c.loop-at.at c.index-shown-at.result c.index-entries-at.result c.loop-at-test.true (omega arith) c.index-shown-at.is c.index-entries-at.is
    (c.is_said.ensures.0 c.if-not-is_said.false) c.loop-at.invariant

pub returns-then-not-is_said : goal.returns-then-not-is_said
returns-then-not-is_said c =
    test-fails (said-fails c.args.shown.now c.args.entries.now c.loop-at.at c.index-shown-at.result c.index-entries-at.result c.loop-at-test.true (omega arith) c.index-shown-at.is c.index-entries-at.is
    (test-not c.is_said.result c.is_said.ensures c.if-not-is_said.true))

pub returns-then-shown-entries : goal.returns-then-shown-entries
returns-then-shown-entries c = test-fails (λ same. (let long = said-long c.args.shown.now c.args.entries.now same in let no : ⊥ = omega (arith, long, c.if-shown-entries.true) in no))

pub returns : goal.returns
returns c = test-holds (said-end c.args.shown.now c.args.entries.now c.loop-at.at c.loop-at-test.false (omega arith) c.loop-at.invariant)
