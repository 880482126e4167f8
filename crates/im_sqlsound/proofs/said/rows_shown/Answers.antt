use Rattle.std.proofs.Common.{◌∙◌, List, Option, MatchOption, subst, ap}
use Rattle.std.specs.List.{AllZip}
use Rattle.im_versions.specs.declared.versions.Version.{Version}
use Rattle.im_catalog.proofs.FoundLemmas.{if-ok}
use Rattle.im_sqlmodel.specs.Keys.{rows_prefix}
use Rattle.im_sqlmodel.specs.Rows.{IsStoredRow}
use Rattle.im_sqlmodel.specs.declared.rows.StoredRow.{StoredRow}
use Rattle.im_sqlsound.specs.Sounding.{under, NoneAreSaid}
use Rattle.im_sqlsound.proofs.said.rows_shown.Goals as goal

pub returns : goal.returns
returns c =
    let t = c.args.table.now in
    let own = c.under-own.ensures ∙ ap (λ k. under k c.args.shown.now) (c.as_slice.ensures ∙ c.in_ok-front.ensures) in
    if-ok (λ (o : Option (List StoredRow)). MatchOption o (NoneAreSaid (IsStoredRow t) c.under-own.result.now) (AllZip (IsStoredRow t) c.under-own.result.now))
    (λ (o : Option (List StoredRow)). MatchOption o (NoneAreSaid (IsStoredRow t) (under (rows_prefix t.tid) c.args.shown.now)) (AllZip (IsStoredRow t) (under (rows_prefix t.tid) c.args.shown.now)))
    c.rows_said.result
    (λ o is. subst (λ (vs : List Version). MatchOption o (NoneAreSaid (IsStoredRow t) vs) (AllZip (IsStoredRow t) vs)) own is) c.rows_said.ensures
