use Rattle.std.proofs.Common.{All, subst, sym, ◌∙◌}
use Rattle.im_sqlsound.specs.Sounding.{IsMarked}
use Rattle.im_sqlsound.proofs.TestLemmas.{test-fails, test-holds, test-not, all-step, all-fails, all-end}
use Rattle.im_sqlsound.proofs.marked.are_marked.Goals as goal

pub loop-row-preserved : goal.loop-row-preserved
loop-row-preserved c =
    let t = c.args.found.now.table in
    let own = c.as_slice.ensures ∙ c.in_ok-mark.ensures in
    let one = c.has_change.ensures.0 c.if-not-has_change.false in
    all-step (IsMarked c.args.changes.now t) c.as_slice-rows.result.now c.loop-row.row-index c.row-item.result c.loop-row-test.true c.row-item.is
    (one.0, one.1, one.2 ∙ own, one.3) c.loop-row.invariant

pub returns-then-not-has_change : goal.returns-then-not-has_change
returns-then-not-has_change c =
    let own = c.as_slice.ensures ∙ c.in_ok-mark.ensures in
    test-fails (λ all. all-fails (IsMarked c.args.changes.now c.args.found.now.table) c.as_slice-rows.result.now c.loop-row.row-index c.row-item.result c.loop-row-test.true c.row-item.is
    (λ one. test-not c.has_change.result c.has_change.ensures c.if-not-has_change.true (one.0, one.1, one.2 ∙ sym own, one.3))
    (subst (All (IsMarked c.args.changes.now c.args.found.now.table)) (sym c.as_slice-rows.ensures) all))

pub returns : goal.returns
returns c =
    test-holds (subst (All (IsMarked c.args.changes.now c.args.found.now.table)) c.as_slice-rows.ensures
    (all-end (IsMarked c.args.changes.now c.args.found.now.table) c.as_slice-rows.result.now c.loop-row.row-index c.loop-row-test.false c.loop-row.invariant))
