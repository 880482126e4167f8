use Rattle.std.proofs.Common.{◌≡◌, false, true, MatchOption, take, sym, ◌∙◌}
use Rattle.im_sqlmodel.specs.Rows.{IsStoredRow}
use Rattle.im_sqlmodel.specs.declared.rows.StoredRow.{StoredRow}
use Rattle.std.specs.Prelude.{Option}
use Rattle.im_catalog.specs.Rows.{RowAt}
use Rattle.im_catalog.proofs.FoundLemmas.{if-ok}
use Rattle.im_catalog.proofs.RowLemmas.{row-there, row-found, row-none}
use Rattle.im_catalog.proofs.rows.row_at.Goals as goal

pub get-requires : goal.get-requires
get-requires g c = (c.requires.view.0, c.requires.view.1, c.requires.view.2)

pub live_row-requires : goal.live_row-requires
live_row-requires g c = λ live.
    let r = c.requires.view in
    row-there (take c.args.n r.0) c.args.table.now c.args.key.now c.in-Some.version r.3 r.4 c.requires.front (sym c.in-Some.is ∙ c.in_ok-version.ensures r.0 r.1 r.2) live

pub returns-in-Some : goal.returns-in-Some
returns-in-Some g c = λ history stands few sound of.
    let v = c.in-Some.version in
    if-ok (λ (found : Option StoredRow). MatchOption found (v.deleted ≡ true) (λ s. (v.deleted ≡ false) × IsStoredRow c.args.table.now v s)) (RowAt (take c.args.n history) c.args.table.now c.args.key.now) c.live_row.result
    (λ found says. row-found (take c.args.n history) c.args.table.now c.args.key.now v found (sym c.in-Some.is ∙ c.in_ok-version.ensures history stands few) says)
    c.live_row.ensures

pub returns-in-None : goal.returns-in-None
returns-in-None g c = λ history stands few sound of.
    row-none (take c.args.n history) c.args.table.now c.args.key.now (sym c.in-None.is ∙ c.in_ok-version.ensures history stands few)
