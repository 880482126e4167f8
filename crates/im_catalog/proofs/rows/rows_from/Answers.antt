use Rattle.std.proofs.Common.{List, take, sym, subst}
use Rattle.std.specs.List.{All, AllZip}
use Rattle.im_versions.specs.declared.versions.Version.{Version}
use Rattle.im_sqlmodel.specs.Rows.{IsStoredRow}
use Rattle.im_catalog.specs.Rows.{HasRowText}
use Rattle.im_catalog.proofs.RowLemmas.{rows-there}
use Rattle.im_catalog.proofs.rows.rows_from.Goals as goal

pub scan-requires : goal.scan-requires
scan-requires g c = (c.requires.view.0, c.requires.view.1, c.requires.view.2)

pub stored_rows-requires : goal.stored_rows-requires
stored_rows-requires g c =
    let r = c.requires.view in
    subst (All (λ (v : Version). HasRowText c.args.table.now v.key v.value)) (sym c.as_slice.ensures)
    (rows-there (take c.args.n r.0) c.args.table.now c.args.front.now c.in_ok-shown.shown r.3 r.4 c.requires.front (c.in_ok-shown.ensures r.0 r.1 r.2))

pub returns : goal.returns
returns g c = λ history stands few sound of. (
  c.in_ok-shown.shown,
  c.in_ok-shown.ensures history stands few,
  subst (λ (shown : List Version). AllZip (IsStoredRow c.args.table.now) shown c.in_ok-rows.rows.items) c.as_slice.ensures c.in_ok-rows.ensures,
)
