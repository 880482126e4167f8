use Rattle.std.proofs.Common.{◌++◌, [], ◌∷◌, List, take, ap, ◌∙◌}
use Rattle.im_versions.specs.declared.versions.Version.{Version}
use Rattle.im_sqlmodel.specs.Sorts.{sorted}
use Rattle.im_sqltype.specs.Orders.{octets_cmp}
use Rattle.im_sqlsound.specs.Stepping.{live_own}
use Rattle.im_sqlsound.proofs.stepping.own_entries.Goals as goal

pub returns : goal.returns
returns g c = λ history stands few.
    let h = take c.args.n history in
    let own = c.args.own.now in
    let first = c.in_ok-push_own.ensures history stands few ∙ ap (λ (vs : List Version). vs ++ live_own h (0 ∷ 5 ∷ []) own) c.new-entries.ensures.items in
    let both = c.in_ok-push_own-2.ensures history stands few ∙ ap (λ (vs : List Version). vs ++ live_own h (0 ∷ 6 ∷ []) own) first in
    c.in_ok-sort_versions.ensures ∙ ap (sorted (λ (a b : Version). octets_cmp a.key b.key)) both
