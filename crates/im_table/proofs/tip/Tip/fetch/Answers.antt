use Rattle.std.proofs.Common.{◌≡◌, ◌∙◌, ap}
use Rattle.im_table.specs.Known.{KnownPass}
use Rattle.im_table.specs.Views.{left_of, view_joined}
use Rattle.im_table.specs.declared.roles.Roles.{Roles}
use Rattle.im_table.specs.declared.view.View.{View}
use Rattle.im_table.proofs.PassLemmas.{left_none}
use Rattle.im_table.proofs.tip.Tip.fetch.Goals as goal

pub returns-clause-view : goal.returns-clause-view
returns-clause-view g c =
    let v = c.args.pass.now.view in
    let left : c.split-stand_in.new.pass.view ≡ v = c.split-stand_in.ensures.left.1 ∙ ap (λ (r : Roles). left_of r 0 v) c.no_roles.ensures ∙ left_none v in
    c.join.ensures.view ∙ ap (λ (u : View). view_joined u c.replace-own.result.view) left ∙ ap (λ (p : KnownPass). view_joined v p.view) c.replace-own.ensures.value
