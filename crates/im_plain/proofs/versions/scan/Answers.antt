use Rattle.std.proofs.Common.{◌≡◌, ◌<◌, ◌+◌, List, length, take, None, ap, sym, subst, ◌∙◌, arith}
use Rattle.std.proofs.lemmas.List.{take_all}
use Rattle.im_versions.specs.Versions.{all_versions, IsScan}
use Rattle.im_versions.specs.declared.versions.Version.{Version}
use Rattle.im_versions.proofs.ScanLemmas.{IsScanOf, shown_of, scan-all, scan-more-none, scan-more-some}
use Rattle.im_plain.proofs.versions.scan.Goals as goal
use Rattle.im_plain.proofs.versions.scan.Goals.{in-Some+in_ok-put, in_default}

pub loop-version-preserved : goal.loop-version-preserved
loop-version-preserved c =
    let vs = c.deref-version-items.result.now in
    let i = c.loop-version.version-index in
    let within : i < length vs = omega arith in
    let seen : shown_of c.args.history.now c.args.prefix.now c.version-item.result.key ≡ c.in_ok-last.field-0 = ap (shown_of c.args.history.now c.args.prefix.now) (sym c.as_slice.ensures) ∙ sym c.in_ok-last.ensures in
    elim c.match-branch-3.branch [
      | in-Some+in_ok-put w ↦ (
          let after = w.put.new.shown.items in
          let done : IsScanOf c.args.history.now c.args.prefix.now (take (i + 1) vs) after = scan-more-some c.args.history.now c.args.prefix.now vs c.loop-version.shown.items after i c.version-item.result w.in-Some.last c.loop-version.invariant within c.version-item.is (seen ∙ w.in-Some.is) w.in_ok-put.ensures.rising w.in_ok-put.ensures.only w.in_ok-put.ensures.kept w.in_ok-put.ensures.there in
          subst (λ (v : _). IsScanOf c.args.history.now c.args.prefix.now (take (i + 1) vs) v.items) (sym w.shown-is) done)
      | in_default w ↦ (
          let none : c.in_ok-last.field-0 ≡ None = w.in_default.is in
          let done : IsScanOf c.args.history.now c.args.prefix.now (take (i + 1) vs) c.loop-version.shown.items = scan-more-none c.args.history.now c.args.prefix.now vs c.loop-version.shown.items i c.version-item.result c.loop-version.invariant within c.version-item.is (seen ∙ none) in
          subst (λ (v : _). IsScanOf c.args.history.now c.args.prefix.now (take (i + 1) vs) v.items) (sym w.shown-is) done)
    ]

pub returns : goal.returns
returns c =
    let vs = c.deref-version-items.result.now in
    let whole : take c.loop-version.version-index vs ≡ all_versions c.args.history.now = take_all c.loop-version.version-index vs (omega arith) ∙ c.deref-version-items.ensures.value ∙ c.in_ok-all.ensures in
    let found : IsScanOf c.args.history.now c.args.prefix.now (all_versions c.args.history.now) c.loop-version.shown.items = subst (λ (seen : List Version). IsScanOf c.args.history.now c.args.prefix.now seen c.loop-version.shown.items) whole c.loop-version.invariant in
    subst (λ (shown : List Version). IsScan c.args.history.now c.args.prefix.now shown) (sym c.from_vec.ensures) (scan-all c.args.history.now c.args.prefix.now c.loop-version.shown.items found)
