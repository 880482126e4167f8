use Rattle.std.proofs.Common.{rules, ◌≡◌, ◌≤◌, true, length, ap, sym, subst}
use Rattle.im_table.specs.declared.view.View.{View}
use Rattle.im_table.proofs.StoreLemmas.{settles}
use Rattle.im_table.proofs.tip.Tip.store_durable.Goals as goal

pub store-requires : goal.store-requires
store-requires g c =
    let v = sym (ap (λ k. k.view) c.pass.view_is) in (
      search rules,
      search rules,
      settles _ _ _ _ _ _
          (subst (λ (u : View). u.roles.journal ≡ true) v c.requires.role)
          (subst (λ (u : View). u.least.durable ≤ c.args.new) v c.requires.more)
          (subst (λ (u : View). c.args.new ≤ length u.seen) v c.requires.within),
    )
