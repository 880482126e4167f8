use Rattle.std.proofs.Common.{◌≡◌, ◌+◌, ◌∷◌, [], true, List, Option, MatchOption, All, take, sym, subst}
use Rattle.std.proofs.lemmas.List.Elements.{filter_passes}
use Rattle.std.specs.List.{AllZip}
use Rattle.im_versions.specs.Versions.{begins_with}
use Rattle.im_versions.specs.declared.versions.Version.{Version}
use Rattle.im_catalog.proofs.ZipLemmas.{zip-more}
use Rattle.im_sqlsound.specs.Sounding.{IsFoundBy}
use Rattle.im_sqlsound.specs.declared.found.TableFound.{TableFound}
use Rattle.im_sqlsound.proofs.SayLemmas.{zip-whole, zip-nothing}
use Rattle.im_sqlsound.proofs.TablesLemmas.{found-whole, found-zip}
use Rattle.im_sqlsound.proofs.said.tables_found.Goals as goal

pub found_by-requires-clause-front : goal.found_by-requires-clause-front
found_by-requires-clause-front c =
    let all = subst (All (λ (v : Version). begins_with (0 ∷ 1 ∷ []) v.key ≡ true)) (sym c.under-said.ensures) (filter_passes (λ (v : Version). begins_with (0 ∷ 1 ∷ []) v.key) c.args.shown.now) in
    subst (λ (v : Version). begins_with (0 ∷ 1 ∷ []) v.key ≡ true) (sym c.version-item.is) (all c.loop-version.version-index c.version-item.result c.loop-version-test.true)

pub loop-version-preserved : goal.loop-version-preserved
loop-version-preserved c =
    let shown = c.args.shown.now in
    let said = c.under-said.result.now in
    let v = c.version-item.result in
    let by = subst (λ (o : Option TableFound). MatchOption o ((f : TableFound) → IsFoundBy shown v f → ⊥) (IsFoundBy shown v)) c.in-Some.is c.in_ok-found.ensures in
    subst (λ (fs : List TableFound). AllZip (IsFoundBy shown) (take (c.loop-version.version-index + 1) said) fs) (sym c.in_ok-push-in-Some.ensures.items)
    (zip-more (IsFoundBy shown) said c.loop-version.tables.items c.loop-version.version-index v c.in-Some.found c.loop-version-test.true c.version-item.is c.loop-version.invariant by)

pub returns-in-None : goal.returns-in-None
returns-in-None c = λ fs are.
    let shown = c.args.shown.now in
    let v = c.version-item.result in
    let none = subst (λ (o : Option TableFound). MatchOption o ((f : TableFound) → IsFoundBy shown v f → ⊥) (IsFoundBy shown v)) c.in-None.is c.in_ok-found.ensures in
    zip-nothing (IsFoundBy shown) c.under-said.result.now c.loop-version.version-index v c.loop-version-test.true c.version-item.is none fs
    (subst (λ (vs : List Version). AllZip (IsFoundBy shown) vs fs) (sym c.under-said.ensures) (found-zip shown fs are))

pub returns : goal.returns
returns c =
    let shown = c.args.shown.now in
    found-whole shown c.loop-version.tables.items
    (subst (λ (vs : List Version). AllZip (IsFoundBy shown) vs c.loop-version.tables.items) c.under-said.ensures
    (zip-whole (IsFoundBy shown) c.under-said.result.now c.loop-version.tables.items c.loop-version.version-index c.loop-version-test.false c.loop-version.invariant))
