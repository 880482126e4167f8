use Rattle.std.proofs.Common.{rules, ◌≡◌, ℕ, List, true, ap, sym, subst, ◌∙◌}
use Rattle.atomic_table.specs.Table.{Allows}
use Rattle.im_table.specs.declared.items.LogItem.{LogItem}
use Rattle.im_table.specs.declared.view.View.{View}
use Rattle.im_table.specs.References.{IsLawful}
use Rattle.im_table.specs.Rules.{Closes, HoldsRule}
use Rattle.im_table.proofs.EndLemmas.{closes}
use Rattle.im_table.proofs.tip.Tip.close_as.Goals as goal

pub load-requires : goal.load-requires
load-requires g c =
    let v = sym (ap (λ k. k.view) c.pass.view_is) in
    let t = c.self.inside.table.shared in
    let allows = IsLawful g.L.Law.allows t.key.logs in
    let same = ap (λ k. k.found) c.self.view_is ∙ sym c.requires.picked.0 in
    let number = ap (λ k. k.logs) c.self.view_is ∙ sym c.requires.picked.1 in
    let me = c.pass.inside.seat.me in (
      search rules,
      search rules,
      subst (λ (l : List LogItem). Allows (HoldsRule allows t.key.found.items) t.table_id.slots c.pass.inside.seat.id me 0 (λ n. n) (λ n w. Closes (IsLawful g.L.Law.allows g.O.Origin.logs) l me.0 n w.0 × (w.1 ≡ me.1))) same
          (subst (λ (logs : ℕ). Allows (HoldsRule allows t.key.found.items) t.table_id.slots c.pass.inside.seat.id me 0 (λ n. n) (λ n w. Closes (IsLawful g.L.Law.allows logs) t.key.found.items me.0 n w.0 × (w.1 ≡ me.1))) number
          (closes allows t.key.found.items t.table_id.slots c.pass.inside.seat.id me (subst (λ (u : View). u.roles.book ≡ true) v c.requires.role))),
    )
