use Rattle.std.proofs.Common.{rules, ◌≡◌, ◌+◌, ◌<◌, ◌++◌, ◌∷◌, [], ℕ, true, length, ap, sym, subst, ◌∙◌}
use Rattle.im_format.specs.Places.{AreAppended}
use Rattle.im_table.specs.References.{references_of, HaveLengths, IsLawful}
use Rattle.im_table.specs.declared.items.LogItem.{LogItem}
use Rattle.im_table.specs.declared.view.View.{View}
use Rattle.im_table.proofs.ReferenceLemmas.{more_lawful}
use Rattle.im_table.proofs.StoreLemmas.{adds}
use Rattle.im_table.proofs.tip.Tip.store_as.Goals as goal

pub store-requires : goal.store-requires
store-requires g c =
    let v = sym (ap (λ k. k.view) c.pass.view_is) in
    let x = g.J.Added.item in
    let is = sym c.requires.picked in
    let allows = g.L.Law.allows in
    let logs = c.self.inside.table.shared.key.logs in
    let seen = c.args.pass.now.view.seen in
    let lawful = subst (λ (i : LogItem). allows (seen ++ i ∷ [])) is c.requires.lawful in
    let here = subst (λ (i : LogItem). AreAppended c.args.self.now.logs (length seen + 1) 0 (references_of seen) i.refs) is c.requires.laid in
    let sized = subst (λ (i : LogItem). HaveLengths i.tx.entries i.refs) is c.requires.sized in
    let laid = subst (λ (w : ℕ). AreAppended w (length seen + 1) 0 (references_of seen) x.refs) (sym (ap (λ k. k.logs) c.self.view_is)) here in (
      search rules,
      search rules,
      adds (IsLawful allows logs) _ _ _ _ x _
          (subst (λ (u : View). u.roles.book ≡ true) v c.requires.role)
          (subst (λ (u : View). 0 < u.weight) v c.requires.weight)
          (subst (λ (u : View). c.args.new ≡ length u.seen + 1) v c.requires.next)
          (ap (λ i. i.found) c.requires.picked ∙ c.requires.fresh)
          (subst (λ (u : View). IsLawful allows logs u.seen → IsLawful allows logs (u.seen ++ x ∷ [])) v (more_lawful allows logs seen x lawful laid sized)),
    )
