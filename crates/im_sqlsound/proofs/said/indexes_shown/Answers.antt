use Rattle.std.proofs.Common.{◌≡◌, ◌∙◌, true, List, Option, MatchOption, All, subst, sym, ap}
use Rattle.std.proofs.lemmas.List.Elements.{filter_passes}
use Rattle.std.specs.List.{AllZip}
use Rattle.im_versions.specs.Versions.{begins_with}
use Rattle.im_versions.specs.declared.versions.Version.{Version}
use Rattle.im_catalog.proofs.FoundLemmas.{if-ok}
use Rattle.im_sqlmodel.specs.Keys.{index_prefix}
use Rattle.im_sqlmodel.specs.Rows.{IsIndexVersion}
use Rattle.im_sqlmodel.specs.declared.tables.SqlIndex.{SqlIndex}
use Rattle.im_sqlsound.specs.Sounding.{under, NoneAreSaid}
use Rattle.im_sqlsound.proofs.said.indexes_shown.Goals as goal

pub indexes_said-requires-clause-front : goal.indexes_said-requires-clause-front
indexes_said-requires-clause-front c =
    let front = index_prefix c.args.table.now.tid in
    let own = c.under-own.ensures ∙ ap (λ k. under k c.args.shown.now) (c.as_slice.ensures ∙ c.in_ok-front.ensures) in
    subst (All (λ (v : Version). begins_with front v.key ≡ true)) (sym own) (filter_passes (λ (v : Version). begins_with front v.key) c.args.shown.now)

pub returns : goal.returns
returns c =
    let t = c.args.table.now in
    let own = c.under-own.ensures ∙ ap (λ k. under k c.args.shown.now) (c.as_slice.ensures ∙ c.in_ok-front.ensures) in
    if-ok (λ (o : Option (List SqlIndex)). MatchOption o (NoneAreSaid (IsIndexVersion t) c.under-own.result.now) (AllZip (IsIndexVersion t) c.under-own.result.now))
    (λ (o : Option (List SqlIndex)). MatchOption o (NoneAreSaid (IsIndexVersion t) (under (index_prefix t.tid) c.args.shown.now)) (AllZip (IsIndexVersion t) (under (index_prefix t.tid) c.args.shown.now)))
    c.indexes_said.result
    (λ o is. subst (λ (vs : List Version). MatchOption o (NoneAreSaid (IsIndexVersion t) vs) (AllZip (IsIndexVersion t) vs)) own is) c.indexes_said.ensures
