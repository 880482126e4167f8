use Rattle.std.proofs.Common.{◌++◌, List, IfSome, take, ap, subst, ◌∙◌}
use Rattle.std.specs.List.{AllZip}
use Rattle.im_versions.specs.declared.versions.Version.{Version}
use Rattle.im_sqlmodel.specs.Rows.{IsStoredRow}
use Rattle.im_sqlsound.specs.Sounding.{NoneAreSaid}
use Rattle.im_sqlsound.specs.Stepping.{live_own}
use Rattle.im_sqlsound.proofs.TestLemmas.{match-some}
use Rattle.im_sqlsound.proofs.parts.own_rows.Goals as goal

pub returns : goal.returns
returns g c = λ history stands few.
    let t = c.args.table.now in
    let h = take c.args.n history in
    let own = c.args.own.now in
    let live = c.in_ok-push_own.ensures history stands few ∙ ap (λ (vs : List Version). vs ++ live_own h c.as_slice.result.now own) c.new-live.ensures.items
    ∙ ap (λ front. live_own h front own) (c.as_slice.ensures ∙ c.in_ok-front.ensures) in
    subst (λ (vs : List Version). IfSome c.in_ok-rows.rows (AllZip (IsStoredRow t) vs)) (c.as_slice-2.ensures.value ∙ live)
    (match-some (NoneAreSaid (IsStoredRow t) c.as_slice-2.result.now) (AllZip (IsStoredRow t) c.as_slice-2.result.now) c.in_ok-rows.rows c.in_ok-rows.ensures)
