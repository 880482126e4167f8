use Rattle.std.proofs.Common.{rules, ◌≡◌, ◌+◌, ◌<◌, true, ap, sym, subst}
use Rattle.im_table.specs.declared.view.View.{View}
use Rattle.im_table.proofs.StoreLemmas.{fails}
use Rattle.im_table.proofs.tip.Tip.store_failed.Goals as goal

pub store-requires : goal.store-requires
store-requires g c =
    let v = sym (ap (λ k. k.view) c.pass.view_is) in (
      search rules,
      search rules,
      fails _ _ _ _ _ _
          (subst (λ (u : View). u.roles.journal ≡ true) v c.requires.role)
          (subst (λ (u : View). 0 < u.weight) v c.requires.weight)
          (subst (λ (u : View). c.args.new ≡ u.least.failed + 1) v c.requires.next),
    )
