use Rattle.std.proofs.Common.{◌+◌, List, take, sym, subst, arith}
use Rattle.std.proofs.lemmas.List.{take_all}
use Rattle.std.specs.List.{AllZip}
use Rattle.im_versions.specs.declared.versions.Version.{Version}
use Rattle.im_sqlmodel.specs.Rows.{IsIndexVersion}
use Rattle.im_sqlmodel.specs.declared.tables.SqlIndex.{SqlIndex}
use Rattle.im_catalog.specs.Found.{HasIndexText}
use Rattle.im_catalog.proofs.ZipLemmas.{zip-more}
use Rattle.im_catalog.proofs.catalogue.indexes_of.Goals as goal

pub index_of-requires-clause-text : goal.index_of-requires-clause-text
index_of-requires-clause-text c =
    subst (HasIndexText c.args.table.now) (sym c.version-item.is) (c.requires.texts c.loop-version.version-index c.version-item.result c.loop-version-test.true)

pub loop-version-preserved : goal.loop-version-preserved
loop-version-preserved c =
    subst (λ (indexes : List SqlIndex). AllZip (IsIndexVersion c.args.table.now) (take (c.loop-version.version-index + 1) c.args.shown.now) indexes) (sym c.in_ok-push.ensures.items)
    (zip-more (IsIndexVersion c.args.table.now) c.args.shown.now c.loop-version.indexes.items c.loop-version.version-index c.version-item.result c.in_ok-index.index
    c.loop-version-test.true c.version-item.is c.loop-version.invariant c.in_ok-index.ensures)

pub returns : goal.returns
returns c =
    subst (λ (indexes : List SqlIndex). AllZip (IsIndexVersion c.args.table.now) c.args.shown.now indexes) (sym c.from_vec.ensures)
    (subst (λ (shown : List Version). AllZip (IsIndexVersion c.args.table.now) shown c.loop-version.indexes.items) (take_all c.loop-version.version-index c.args.shown.now (omega arith)) c.loop-version.invariant)
