use Rattle.std.proofs.Common.{rules, ◌≡◌, ℕ, ◌∙◌, List, length, arith, ap, sym, subst}
use Rattle.std.specs.Prelude.{IfSome}
use Rattle.im_digest.specs.Digests.{Hash}
use Rattle.im_levels.specs.Leveled.{IsLeveled}
use Rattle.im_model.specs.History.{bl_root_of}
use Rattle.im_table.specs.declared.items.LogItem.{LogItem}
use Rattle.im_table.specs.declared.view.View.{View}
use Rattle.im_linker.specs.Trees.{alhs_in, IsRootOf, IsTreeOf}
use Rattle.im_linker.proofs.TreeLemmas.{tree_front, tree_root, tree_within}
use Rattle.im_linker.proofs.linked.Linked.under.Goals as goal

pub invariant_of-self : goal.invariant_of-self
invariant_of-self g c =
    let hash = g.N.TipName.digest in
    let seen : View → List LogItem = λ v. v.seen in
    let list = c.fetch.new.pass.view.seen in
    let tree = tree_front hash c.self.inside.pass.view.seen list c.self.inside.tree c.fetch.ensures.theirs c.self.invariant.3 in (
      search rules,
      search rules,
      search rules,
      subst (λ (l : List LogItem). IsTreeOf hash l c.self.inside.tree) (sym (ap seen c.split.ensures.right.1)) tree,
      subst (λ (h : Hash). IsRootOf h c.self.inside.tree c.kept_root-root.result) c.requires.hash c.kept_root-root.ensures,
    )

-- the root that is kept is that of the tree under the caller's hash
pub kept_root-root-requires : goal.kept_root-root-requires
kept_root-root-requires g c =
    subst (λ (h : Hash). IfSome c.self.inside.root (IsRootOf h c.self.inside.tree)) (sym c.requires.hash) c.self.invariant.4

pub returns-clause-within : goal.returns-clause-within
returns-clause-within g c =
    let hash = g.N.TipName.digest in
    let list = c.fetch.new.pass.view.seen in
    let tree = tree_front hash c.self.inside.pass.view.seen list c.self.inside.tree c.fetch.ensures.theirs c.self.invariant.3 in
    let few = tree_within hash list c.self.inside.tree tree in
    omega (arith, few, c.size.ensures, ap (λ (v : View). length v.seen) c.split.ensures.left.1)

pub returns-clause-root : goal.returns-clause-root
returns-clause-root g c =
    let hash = g.N.TipName.digest in
    let made = c.kept_root-root.result in
    let list = c.fetch.new.pass.view.seen in
    let tree = tree_front hash c.self.inside.pass.view.seen list c.self.inside.tree c.fetch.ensures.theirs c.self.invariant.3 in
    let told = subst (λ (h : Hash). (leaves : List (List ℕ)) → IsLeveled h leaves c.self.inside.tree → made ≡ bl_root_of h leaves (length leaves)) c.requires.hash c.kept_root-root.ensures in
    tree_root hash list c.self.inside.tree made tree told
    ∙ ap (λ (n : ℕ). bl_root_of hash (alhs_in hash list) n) (sym c.size.ensures)
    ∙ ap (λ (v : View). bl_root_of hash (alhs_in hash v.seen) c.size.result) (sym c.split.ensures.left.1)
