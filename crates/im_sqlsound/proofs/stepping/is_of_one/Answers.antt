use Rattle.std.proofs.Common.{◌≡◌, false, ℕ, List, sym, ap, ◌∙◌}
use Rattle.std.proofs.lemmas.Bool.{true≢false}
use Rattle.im_versions.specs.Versions.{begins_with}
use Rattle.im_versions.proofs.ListLemmas.{All-among}
use Rattle.im_sqlmodel.specs.Keys.{rows_prefix}
use Rattle.im_sqlsound.specs.declared.found.TableFound.{TableFound}
use Rattle.im_sqlsound.proofs.HangLemmas.{at-among}
use Rattle.im_sqlsound.proofs.TestLemmas.{test-fails, test-holds, all-step, all-end}
use Rattle.im_sqlsound.proofs.stepping.is_of_one.Goals as goal

abbrev differs : List ℕ → TableFound → Type 0
differs key f = begins_with (rows_prefix f.table.tid) key ≡ false

pub loop-found-preserved : goal.loop-found-preserved
loop-found-preserved c =
    let own = c.as_slice.ensures ∙ c.in_ok-front.ensures in
    all-step (differs c.args.key.now) c.args.tables.now c.loop-found.found-index c.found-item.result c.loop-found-test.true c.found-item.is
    (ap (λ (front : List ℕ). begins_with front c.args.key.now) (sym own) ∙ sym c.starts_with.ensures.value ∙ c.if-starts_with.false) c.loop-found.invariant

pub returns-then-starts_with : goal.returns-then-starts_with
returns-then-starts_with c =
    let own = c.as_slice.ensures ∙ c.in_ok-front.ensures in
    test-holds (
      c.found-item.result,
      at-among c.args.tables.now c.loop-found.found-index c.found-item.result c.loop-found-test.true c.found-item.is,
      ap (λ (front : List ℕ). begins_with front c.args.key.now) (sym own) ∙ sym c.starts_with.ensures.value ∙ c.if-starts_with.true,
    )

pub returns : goal.returns
returns c = test-fails (λ one. true≢false (sym one.2
    ∙ All-among (differs c.args.key.now) c.args.tables.now one.0 (all-end (differs c.args.key.now) c.args.tables.now c.loop-found.found-index c.loop-found-test.false c.loop-found.invariant) one.1))
