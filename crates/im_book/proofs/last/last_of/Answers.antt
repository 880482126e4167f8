use Rattle.std.proofs.Common.{◌≡◌, ◌+◌, ◌-◌, ◌∙◌, ap, sym, arith, not, Some}
use Rattle.im_versions.specs.Versions.{is_written, last_version, version_number, version_of}
use Rattle.im_book.proofs.LastLemmas.{last-found, last-missed}
use Rattle.im_book.proofs.last.last_of.Goals as goal

pub loop-k-preserved : goal.loop-k-preserved
loop-k-preserved c =
    last-missed c.args.history.now c.args.key.now c.loop-k.k c.index-history-k.result c.as_slice-entries.result.now c.loop-k.invariant c.loop-k-test.true c.loop-k.auto.k c.index-history-k.is c.as_slice-entries.ensures c.in_default.ensures

pub returns-in-Some-clause-number : goal.returns-in-Some-clause-number
returns-in-Some-clause-number c =
    let back : c.loop-k.k ≡ c.loop-k.k - 1 + 1 = omega (arith, c.loop-k-test.true) in
    let found : last_version c.args.history.now c.args.key.now ≡ Some (version_of c.loop-k.k c.in-Some.entry.now) =
    last-found c.args.history.now c.args.key.now c.loop-k.k c.index-history-k.result c.as_slice-entries.result.now c.in-Some.entry.now c.loop-k.invariant c.loop-k-test.true c.loop-k.auto.k c.index-history-k.is
    c.as_slice-entries.ensures c.in-Some.ensures in
    ap version_number found ∙ back

pub returns-in-Some-clause-live : goal.returns-in-Some-clause-live
returns-in-Some-clause-live c =
    let found : last_version c.args.history.now c.args.key.now ≡ Some (version_of c.loop-k.k c.in-Some.entry.now) =
    last-found c.args.history.now c.args.key.now c.loop-k.k c.index-history-k.result c.as_slice-entries.result.now c.in-Some.entry.now c.loop-k.invariant c.loop-k-test.true c.loop-k.auto.k c.index-history-k.is
    c.as_slice-entries.ensures c.in-Some.ensures in
    ap is_written found ∙ ap not (sym c.is_deletion.ensures)
