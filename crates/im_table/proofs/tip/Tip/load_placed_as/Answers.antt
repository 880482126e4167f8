use Rattle.std.proofs.Common.{rules, ◌≡◌, ℕ, ap, sym, subst, ◌∙◌}
use Rattle.atomic_table.specs.Table.{Allows}
use Rattle.im_table.specs.References.{IsLawful}
use Rattle.im_table.specs.Rules.{SeesPlaced, HoldsRule}
use Rattle.im_table.proofs.LoadLemmas.{sees_placed}
use Rattle.im_table.proofs.tip.Tip.load_placed_as.Goals as goal

pub load-requires : goal.load-requires
load-requires g c =
    let t = c.self.inside.table.shared in
    let allows = g.L.Law.allows in
    let same = ap (λ k. k.logs) c.self.view_is ∙ sym c.requires.picked in
    let me = c.pass.inside.seat.me in (
      search rules,
      search rules,
      subst (λ (logs : ℕ). Allows (HoldsRule (IsLawful allows t.key.logs) t.key.found.items) t.table_id.slots c.pass.inside.seat.id me 0 (λ n. n) (λ n w. SeesPlaced (IsLawful allows logs) me.0 n w.0 × (w.1 ≡ me.1))) same
          (sees_placed (IsLawful allows t.key.logs) t.key.found.items t.table_id.slots c.pass.inside.seat.id me),
    )
