use Rattle.std.proofs.Common.{◌≢◌, ℕ, List, sym, ◌∙◌}
use Rattle.im_versions.specs.declared.versions.Version.{Version}
use Rattle.im_versions.proofs.ListLemmas.{All-among}
use Rattle.im_sqlsound.proofs.HangLemmas.{at-among}
use Rattle.im_sqlsound.proofs.TestLemmas.{test-fails, test-holds, test-not, all-step, all-end}
use Rattle.im_sqlsound.proofs.marked.has_key.Goals as goal

abbrev differs : List ℕ → Version → Type 0
differs key v = v.key ≢ key

pub loop-version-preserved : goal.loop-version-preserved
loop-version-preserved c =
    all-step (differs c.args.key.now) c.args.versions.now c.loop-version.version-index c.version-item.result c.loop-version-test.true c.version-item.is
    (λ same. test-not c.are_same.result c.are_same.ensures c.if-are_same.false (c.as_slice.ensures ∙ same)) c.loop-version.invariant

pub returns-then-are_same : goal.returns-then-are_same
returns-then-are_same c =
    test-holds (
      c.version-item.result,
      at-among c.args.versions.now c.loop-version.version-index c.version-item.result c.loop-version-test.true c.version-item.is,
      sym c.as_slice.ensures ∙ c.are_same.ensures.0 c.if-are_same.true,
    )

pub returns : goal.returns
returns c = test-fails (λ one. All-among (differs c.args.key.now) c.args.versions.now one.0 (all-end (differs c.args.key.now) c.args.versions.now c.loop-version.version-index c.loop-version-test.false c.loop-version.invariant) one.1 one.2)
