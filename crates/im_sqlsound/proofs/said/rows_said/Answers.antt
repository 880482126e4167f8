use Rattle.std.proofs.Common.{◌+◌, [], List, Option, MatchOption, take, sym, subst, ◌∙◌}
use Rattle.std.specs.List.{AllZip}
use Rattle.im_sqlmodel.specs.Rows.{IsStoredRow}
use Rattle.im_sqlmodel.specs.declared.rows.StoredRow.{StoredRow}
use Rattle.im_catalog.proofs.ZipLemmas.{zip-more}
use Rattle.im_sqlsound.proofs.SayLemmas.{zip-whole, zip-nothing}
use Rattle.im_sqlsound.proofs.said.rows_said.Goals as goal

pub row_said-requires : goal.row_said-requires
row_said-requires c = c.as_slice.ensures.value ∙ c.in_ok-kinds.ensures

pub loop-version-init : goal.loop-version-init
loop-version-init c = subst (λ (rows : List StoredRow). AllZip (IsStoredRow c.args.table.now) [] rows) (sym c.in_ok-rows.ensures.items) tt

pub loop-version-preserved : goal.loop-version-preserved
loop-version-preserved c =
    let t = c.args.table.now in
    let v = c.version-item.result in
    let said = subst (λ (o : Option StoredRow). MatchOption o ((s : StoredRow) → IsStoredRow t v s → ⊥) (IsStoredRow t v)) c.in-Some.is c.in_ok-row.ensures in
    subst (λ (rows : List StoredRow). AllZip (IsStoredRow t) (take (c.loop-version.version-index + 1) c.args.shown.now) rows) (sym c.in_ok-push-in-Some.ensures.items)
    (zip-more (IsStoredRow t) c.args.shown.now c.loop-version.rows.items c.loop-version.version-index v c.in-Some.row c.loop-version-test.true c.version-item.is c.loop-version.invariant said)

pub returns-in-None : goal.returns-in-None
returns-in-None c =
    let t = c.args.table.now in
    let v = c.version-item.result in
    let none = subst (λ (o : Option StoredRow). MatchOption o ((s : StoredRow) → IsStoredRow t v s → ⊥) (IsStoredRow t v)) c.in-None.is c.in_ok-row.ensures in
    λ said. zip-nothing (IsStoredRow t) c.args.shown.now c.loop-version.version-index v c.loop-version-test.true c.version-item.is none said

pub returns : goal.returns
returns c =
    subst (λ (rows : List StoredRow). AllZip (IsStoredRow c.args.table.now) c.args.shown.now rows) (sym c.from_vec.ensures)
    (zip-whole (IsStoredRow c.args.table.now) c.args.shown.now c.loop-version.rows.items c.loop-version.version-index c.loop-version-test.false c.loop-version.invariant)
