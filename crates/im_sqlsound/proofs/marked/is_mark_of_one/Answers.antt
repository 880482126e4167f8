use Rattle.std.proofs.Common.{◌≢◌, ℕ, List, sym, ◌∙◌}
use Rattle.im_versions.proofs.ListLemmas.{All-among}
use Rattle.im_sqlmodel.specs.Keys.{mark_key}
use Rattle.im_sqlsound.specs.declared.found.TableFound.{TableFound}
use Rattle.im_sqlsound.proofs.HangLemmas.{at-among}
use Rattle.im_sqlsound.proofs.TestLemmas.{test-fails, test-holds, test-not, all-step, all-end}
use Rattle.im_sqlsound.proofs.marked.is_mark_of_one.Goals as goal

abbrev differs : List ℕ → TableFound → Type 0
differs key f = key ≢ mark_key f.table.tid

pub loop-found-preserved : goal.loop-found-preserved
loop-found-preserved c =
    let own = c.as_slice.ensures ∙ c.in_ok-mark.ensures in
    all-step (differs c.args.key.now) c.args.tables.now c.loop-found.found-index c.found-item.result c.loop-found-test.true c.found-item.is
    (λ same. test-not c.are_same.result c.are_same.ensures c.if-are_same.false (own ∙ sym same)) c.loop-found.invariant

pub returns-then-are_same : goal.returns-then-are_same
returns-then-are_same c =
    let own = c.as_slice.ensures ∙ c.in_ok-mark.ensures in
    test-holds (c.found-item.result, at-among c.args.tables.now c.loop-found.found-index c.found-item.result c.loop-found-test.true c.found-item.is, sym (c.are_same.ensures.0 c.if-are_same.true) ∙ own)

pub returns : goal.returns
returns c = test-fails (λ one. All-among (differs c.args.key.now) c.args.tables.now one.0 (all-end (differs c.args.key.now) c.args.tables.now c.loop-found.found-index c.loop-found-test.false c.loop-found.invariant) one.1 one.2)
