use Rattle.std.proofs.Common.{rules, ◌<◌, ap, sym, subst}
use Rattle.im_table.specs.declared.view.View.{View}
use Rattle.im_table.specs.Views.{AreHeld}
use Rattle.im_table.proofs.ShareLemmas.{cuts}
use Rattle.im_table.proofs.tip.Tip.split_as.Goals as goal

pub split_seat-seat-requires : goal.split_seat-seat-requires
split_seat-seat-requires g c =
    let v = sym (ap (λ k. k.view) c.pass.view_is) in (
      search rules,
      search rules,
      cuts _ _ _ _ g.J.Cut.roles g.J.Cut.weight
          (subst (λ (u : View). AreHeld u.roles g.J.Cut.roles) v (subst (AreHeld c.args.pass.now.view.roles) (sym c.requires.picked.0) c.requires.role))
          (subst (λ (u : View). g.J.Cut.weight < u.weight) v (subst (λ n. n < c.args.pass.now.view.weight) (sym c.requires.picked.1) c.requires.weight)),
    )
