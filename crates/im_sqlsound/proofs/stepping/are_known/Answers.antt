use Rattle.std.proofs.Common.{List, sym, subst}
use Rattle.im_versions.specs.declared.versions.Version.{Version}
use Rattle.im_sqlsound.specs.Stepping.{IsKnownKey}
use Rattle.im_sqlsound.specs.declared.found.TableFound.{TableFound}
use Rattle.im_sqlsound.proofs.TestLemmas.{test-fails, test-holds, test-not, all-step, all-fails, all-end}
use Rattle.im_sqlsound.proofs.stepping.are_known.Goals as goal

abbrev known : List TableFound → Version → Type 0
known fs v = IsKnownKey fs v.key

pub loop-version-preserved : goal.loop-version-preserved
loop-version-preserved c =
    all-step (known c.args.tables.now) c.args.own.now c.loop-version.version-index c.version-item.result c.loop-version-test.true c.version-item.is
    (subst (IsKnownKey c.args.tables.now) c.as_slice.ensures (c.in_ok-known.ensures.0 c.if-not-known.false)) c.loop-version.invariant

pub returns-then-not-known : goal.returns-then-not-known
returns-then-not-known c =
    test-fails (all-fails (known c.args.tables.now) c.args.own.now c.loop-version.version-index c.version-item.result c.loop-version-test.true c.version-item.is
    (λ is. test-not c.in_ok-known.known c.in_ok-known.ensures c.if-not-known.true (subst (IsKnownKey c.args.tables.now) (sym c.as_slice.ensures) is)))

pub returns : goal.returns
returns c = test-holds (all-end (known c.args.tables.now) c.args.own.now c.loop-version.version-index c.loop-version-test.false c.loop-version.invariant)
