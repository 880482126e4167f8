use Rattle.std.proofs.Common.{◌≡◌, ◌<◌, ℕ, List, [], length, ap, sym, subst, ◌∙◌, arith}
use Rattle.std.proofs.lemmas.Result.{IfOk-weaker}
use Rattle.std.specs.Prelude.{IfOk}
use Rattle.im_versions.specs.declared.versions.Version.{Version}
use Rattle.im_index.specs.Runs.{AreHalving, lengths, settled, taken_in}
use Rattle.im_index.proofs.HoldLemmas.{hold-push, run-length}
use Rattle.im_index.proofs.IndexLemmas.{hold-nothing}
use Rattle.im_index.proofs.SettleLemmas.{no-items, some-items, taken-some}
use Rattle.im_index.proofs.merging.with_versions.Goals as goal

pub returns-then-is_empty-clause-holds : goal.returns-then-is_empty-clause-holds
returns-then-is_empty-clause-holds c = λ before h.
    let none : c.args.versions.items ≡ [] = no-items c.args.versions.items _ c.is_empty.result c.is_empty.ensures c.if-is_empty.true c.args.versions.ok.0 in
    IfOk-weaker c.shares_of.result _ _ (λ next same. hold-nothing c.args.runs.now next.items before c.args.versions.items none same h) c.shares_of.ensures

pub returns-then-is_empty-clause-halving : goal.returns-then-is_empty-clause-halving
returns-then-is_empty-clause-halving c = λ h.
    IfOk-weaker c.shares_of.result _ _ (λ next same. subst AreHalving (sym same) h) c.shares_of.ensures

pub returns-then-is_empty-clause-lengths : goal.returns-then-is_empty-clause-lengths
returns-then-is_empty-clause-lengths c =
    let none : c.args.versions.items ≡ [] = no-items c.args.versions.items _ c.is_empty.result c.is_empty.ensures c.if-is_empty.true c.args.versions.ok.0 in
    IfOk-weaker c.shares_of.result _ _
    (λ next same. ap lengths same ∙ ap (λ (vs : List Version). taken_in (length vs) (lengths c.args.runs.now)) (sym none)) c.shares_of.ensures

pub returns-clause-holds : goal.returns-clause-holds
returns-clause-holds c = λ before h.
    c.with_newest.ensures.holds _ (hold-push c.args.runs.now before c.in_ok-newest.newest c.args.versions.items h c.in_ok-newest.ensures)

pub returns-clause-halving : goal.returns-clause-halving
returns-clause-halving c = λ h.
    let long : length c.in_ok-newest.newest ≡ length c.args.versions.items = run-length _ _ c.in_ok-newest.ensures in
    let some : 0 < length c.args.versions.items = some-items c.args.versions.items _ c.is_empty.result c.is_empty.ensures c.if-is_empty.false c.args.versions.ok.0 in
    let filled : 0 < length c.in_ok-newest.newest = omega arith in
    c.with_newest.ensures.halving h filled

pub returns-clause-lengths : goal.returns-clause-lengths
returns-clause-lengths c =
    let long : length c.in_ok-newest.newest ≡ length c.args.versions.items = run-length _ _ c.in_ok-newest.ensures in
    let some : 0 < length c.args.versions.items = some-items c.args.versions.items _ c.is_empty.result c.is_empty.ensures c.if-is_empty.false c.args.versions.ok.0 in
    let same : settled (length c.in_ok-newest.newest) (lengths c.args.runs.now) ≡ taken_in (length c.args.versions.items) (lengths c.args.runs.now) =
    ap (λ n. settled n (lengths c.args.runs.now)) long ∙ sym (taken-some (length c.args.versions.items) (lengths c.args.runs.now) some) in
    subst (λ (ms : List ℕ). IfOk c.with_newest.result (λ next. lengths next.items ≡ ms)) same c.with_newest.ensures.lengths
