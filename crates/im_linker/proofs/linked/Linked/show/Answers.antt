use Rattle.std.proofs.Common.{rules, List, ap, sym, subst, arith}
use Rattle.im_table.specs.declared.items.LogItem.{LogItem}
use Rattle.im_table.specs.declared.view.View.{View}
use Rattle.im_linker.specs.Trees.{IsTreeOf}
use Rattle.im_linker.proofs.TreeLemmas.{tree_front}
use Rattle.im_linker.proofs.linked.Linked.show.Goals as goal

pub invariant_of-self : goal.invariant_of-self
invariant_of-self g c =
    let hash = g.N.TipName.digest in
    let seen : View → List LogItem = λ v. v.seen in
    let list = c.fetch.new.pass.view.seen in
    let tree = tree_front hash c.self.inside.pass.view.seen list c.self.inside.tree c.fetch.ensures.theirs c.self.invariant.3 in (
      search rules,
      search rules,
      search rules,
      subst (λ (l : List LogItem). IsTreeOf hash l c.self.inside.tree) (sym (ap seen c.split.ensures.right.1)) tree,
      c.self.invariant.4,
    )

pub returns-clause-leaves : goal.returns-clause-leaves
returns-clause-leaves g c =
    let hash = g.N.TipName.digest in
    let seen : View → List LogItem = λ v. v.seen in
    let list = c.fetch.new.pass.view.seen in
    let tree = tree_front hash c.self.inside.pass.view.seen list c.self.inside.tree c.fetch.ensures.theirs c.self.invariant.3 in
    subst (λ (l : List LogItem). IsTreeOf hash l c.self.inside.tree) (sym (ap seen c.split.ensures.left.1)) tree

pub returns-clause-durable : goal.returns-clause-durable
returns-clause-durable g c =
    omega (arith, c.self.invariant.2, c.fetch.ensures.durable.1, c.size.ensures, ap (λ (v : View). v.least.durable) c.split.ensures.left.1)
