use Rattle.std.proofs.Common.{◌≡◌, ◌+◌, [], true, List, Option, MatchOption, take, sym, subst}
use Rattle.std.specs.List.{AllZip}
use Rattle.im_versions.specs.Versions.{begins_with}
use Rattle.im_versions.specs.declared.versions.Version.{Version}
use Rattle.im_sqlmodel.specs.Keys.{index_prefix}
use Rattle.im_sqlmodel.specs.Rows.{IsIndexVersion}
use Rattle.im_sqlmodel.specs.declared.tables.SqlIndex.{SqlIndex}
use Rattle.im_catalog.proofs.ZipLemmas.{zip-more}
use Rattle.im_sqlsound.specs.Sounding.{SaysNoIndex}
use Rattle.im_sqlsound.proofs.SayLemmas.{zip-whole, zip-nothing}
use Rattle.im_sqlsound.proofs.said.indexes_said.Goals as goal

pub index_said-requires-clause-front : goal.index_said-requires-clause-front
index_said-requires-clause-front c =
    subst (λ (v : Version). begins_with (index_prefix c.args.table.now.tid) v.key ≡ true) (sym c.version-item.is)
    (c.requires.front c.loop-version.version-index c.version-item.result c.loop-version-test.true)

pub loop-version-init : goal.loop-version-init
loop-version-init c = subst (λ (is : List SqlIndex). AllZip (IsIndexVersion c.args.table.now) [] is) (sym c.in_ok-indexes.ensures.items) tt

pub loop-version-preserved : goal.loop-version-preserved
loop-version-preserved c =
    let t = c.args.table.now in
    let v = c.version-item.result in
    let said = subst (λ (o : Option SqlIndex). MatchOption o (SaysNoIndex t v) (IsIndexVersion t v)) c.in-Some.is c.in_ok-index.ensures in
    subst (λ (is : List SqlIndex). AllZip (IsIndexVersion t) (take (c.loop-version.version-index + 1) c.args.shown.now) is) (sym c.in_ok-push-in-Some.ensures.items)
    (zip-more (IsIndexVersion t) c.args.shown.now c.loop-version.indexes.items c.loop-version.version-index v c.in-Some.index c.loop-version-test.true c.version-item.is c.loop-version.invariant said)

pub returns-in-None : goal.returns-in-None
returns-in-None c =
    let t = c.args.table.now in
    let v = c.version-item.result in
    let none = subst (λ (o : Option SqlIndex). MatchOption o (SaysNoIndex t v) (IsIndexVersion t v)) c.in-None.is c.in_ok-index.ensures in
    λ said. zip-nothing (IsIndexVersion t) c.args.shown.now c.loop-version.version-index v c.loop-version-test.true c.version-item.is none said

pub returns : goal.returns
returns c =
    subst (λ (is : List SqlIndex). AllZip (IsIndexVersion c.args.table.now) c.args.shown.now is) (sym c.from_vec.ensures)
    (zip-whole (IsIndexVersion c.args.table.now) c.args.shown.now c.loop-version.indexes.items c.loop-version.version-index c.loop-version-test.false c.loop-version.invariant)
