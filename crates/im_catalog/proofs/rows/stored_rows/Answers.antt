use Rattle.std.proofs.Common.{◌+◌, List, take, sym, subst, arith}
use Rattle.std.proofs.lemmas.List.{take_all}
use Rattle.std.specs.List.{AllZip}
use Rattle.im_versions.specs.declared.versions.Version.{Version}
use Rattle.im_sqlmodel.specs.Rows.{IsStoredRow}
use Rattle.im_sqlmodel.specs.declared.rows.StoredRow.{StoredRow}
use Rattle.im_catalog.specs.Rows.{HasRowText}
use Rattle.im_catalog.proofs.ZipLemmas.{zip-more}
use Rattle.im_catalog.proofs.rows.stored_rows.Goals as goal

pub stored_of-requires-clause-text : goal.stored_of-requires-clause-text
stored_of-requires-clause-text c =
    subst (λ (v : Version). HasRowText c.args.table.now v.key v.value) (sym c.version-item.is) (c.requires c.loop-version.version-index c.version-item.result c.loop-version-test.true)

pub loop-version-preserved : goal.loop-version-preserved
loop-version-preserved c =
    subst (λ (rows : List StoredRow). AllZip (IsStoredRow c.args.table.now) (take (c.loop-version.version-index + 1) c.args.shown.now) rows) (sym c.in_ok-push.ensures.items)
    (zip-more (IsStoredRow c.args.table.now) c.args.shown.now c.loop-version.rows.items c.loop-version.version-index c.version-item.result c.in_ok-stored.stored
    c.loop-version-test.true c.version-item.is c.loop-version.invariant c.in_ok-stored.ensures)

pub returns : goal.returns
returns c =
    subst (λ (shown : List Version). AllZip (IsStoredRow c.args.table.now) shown c.loop-version.rows.items) (take_all c.loop-version.version-index c.args.shown.now (omega arith)) c.loop-version.invariant
