use Rattle.std.proofs.Common.{◌≡◌, ◌↔◌, ◌++◌, [], ◌∷◌, true, List, All, take, ap, subst, ◌∙◌}
use Rattle.im_versions.specs.declared.versions.Version.{Version}
use Rattle.im_sqlsound.specs.Sounding.{IsMarkShown}
use Rattle.im_sqlsound.specs.Stepping.{live_own}
use Rattle.im_sqlsound.proofs.stepping.are_own_marks.Goals as goal

pub returns : goal.returns
returns g c = λ history stands few.
    let live = c.in_ok-push_own.ensures history stands few ∙ ap (λ (vs : List Version). vs ++ live_own (take c.args.n history) (0 ∷ 3 ∷ []) c.args.own.now) c.new-marks.ensures.items in
    subst (λ (vs : List Version). (c.in_ok-are.are ≡ true) ↔ All (IsMarkShown c.args.tables.now) vs) (c.as_slice.ensures.value ∙ live) c.in_ok-are.ensures
