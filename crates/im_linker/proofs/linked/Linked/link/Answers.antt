use Rattle.std.proofs.Common.{rules, ◌≡◌, ◌≤◌, ◌+◌, ◌++◌, ◌∙◌, List, ℕ, length, take, drop, ap, sym, subst}
use Rattle.std.specs.Prelude.{IfSome}
use Rattle.im_digest.specs.Digests.{Hash}
use Rattle.im_levels.specs.Leveled.{IsLeveled, Stored}
use Rattle.im_table.specs.declared.items.LogItem.{LogItem}
use Rattle.im_table.specs.declared.view.View.{View}
use Rattle.im_linker.specs.Trees.{alhs_in, IsRootOf, IsTreeOf}
use Rattle.im_linker.proofs.TreeLemmas.{tree_linked}
use Rattle.im_linker.proofs.linked.Linked.link.Goals as goal

pub invariant_of-self : goal.invariant_of-self
invariant_of-self g c = (
  search rules,
  search rules,
  search rules,
  subst (λ (t : Stored). IsTreeOf g.N.TipName.digest c.self.inside.pass.view.seen t) (sym c.in_err-extend.ensures.err) c.self.invariant.3,
  subst (λ (t : Stored). IfSome c.self.inside.root (IsRootOf g.N.TipName.digest t)) (sym c.in_err-extend.ensures.err) c.self.invariant.4,
)

pub invariant_of-self-2 : goal.invariant_of-self-2
invariant_of-self-2 g c =
    let hash = g.N.TipName.digest in
    let alhs = c.args.alhs.now in
    let before = c.self.inside.pass.view.seen in
    let mine = c.args.pass.now.view.seen in
    let list = c.fetch.new.pass.view.seen in
    let old = c.self.inside.tree in
    let new = c.extend.new.self in
    let seen : View → List LogItem = λ v. v.seen in
    let next = subst (λ (t : Stored). alhs ≡ take (length alhs) (drop t.size (alhs_in hash mine))) (sym c.self.view_is) c.requires.next in
    let within = subst (λ (t : Stored). t.size + length alhs ≤ length mine) (sym c.self.view_is) c.requires.within.0 in
    let leaves : List (List ℕ) = take old.size (alhs_in hash before) in
    let leveled = subst (λ (h : Hash). IsLeveled h leaves old → IsLeveled h (leaves ++ alhs) new) c.requires.hash (c.in_ok-extend.ensures.leaves leaves) c.self.invariant.3 in
    let tree = tree_linked hash before mine list alhs old new c.self.invariant.3 c.fetch.ensures.theirs c.fetch.ensures.mine next within c.in_ok-extend.ensures.size leveled in (
      search rules,
      search rules,
      search rules,
      subst (λ (l : List LogItem). IsTreeOf hash l new) (sym (ap seen c.split.ensures.right.1 ∙ ap seen c.store_linked.ensures.view)) tree,
      tt,
    )

pub returns-clause-leaves : goal.returns-clause-leaves
returns-clause-leaves g c =
    let hash = g.N.TipName.digest in
    let alhs = c.args.alhs.now in
    let before = c.self.inside.pass.view.seen in
    let mine = c.args.pass.now.view.seen in
    let list = c.fetch.new.pass.view.seen in
    let old = c.self.inside.tree in
    let new = c.extend.new.self in
    let seen : View → List LogItem = λ v. v.seen in
    let next = subst (λ (t : Stored). alhs ≡ take (length alhs) (drop t.size (alhs_in hash mine))) (sym c.self.view_is) c.requires.next in
    let within = subst (λ (t : Stored). t.size + length alhs ≤ length mine) (sym c.self.view_is) c.requires.within.0 in
    let leaves : List (List ℕ) = take old.size (alhs_in hash before) in
    let leveled = subst (λ (h : Hash). IsLeveled h leaves old → IsLeveled h (leaves ++ alhs) new) c.requires.hash (c.in_ok-extend.ensures.leaves leaves) c.self.invariant.3 in
    let tree = tree_linked hash before mine list alhs old new c.self.invariant.3 c.fetch.ensures.theirs c.fetch.ensures.mine next within c.in_ok-extend.ensures.size leveled in
    subst (λ (l : List LogItem). IsTreeOf hash l new) (sym (ap seen c.split.ensures.left.1 ∙ ap seen c.store_linked.ensures.view)) tree
