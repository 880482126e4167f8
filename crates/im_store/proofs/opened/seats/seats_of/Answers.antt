use Rattle.std.proofs.Common.{◌∙◌, List, refl, ap, arith}
use Rattle.im_table.specs.Passes.{book_role, index_role, journal_role, tree_role}
use Rattle.im_table.specs.Views.{opener}
use Rattle.im_table.specs.declared.items.LogItem.{LogItem}
use Rattle.im_table.specs.declared.view.View.{View}
use Rattle.im_store.proofs.SplitLemmas.{behind_indexer, behind_keeper, behind_writer, held_first, held_fourth, held_is, held_second, held_third, keeper_is, left_is, right_is}
use Rattle.im_store.proofs.opened.seats.seats_of.Goals as goal

-- the pass has each role, and what is split off before leaves those that are split off behind
pub split-writer-requires-clause-role : goal.split-writer-requires-clause-role
split-writer-requires-clause-role g c =
    let found : List LogItem = c.requires.opens.0 in
    held_is c.journal_role.result journal_role (opener found).roles c.args.pass.now.view (opener found) c.journal_role.ensures c.requires.opens.1 refl held_first

pub split-writer-requires-clause-weight : goal.split-writer-requires-clause-weight
split-writer-requires-clause-weight g c = omega (arith, ap (λ (v : View). v.weight) c.requires.opens.1)

pub split-indexer-requires-clause-role : goal.split-indexer-requires-clause-role
split-indexer-requires-clause-role g c =
    let found : List LogItem = c.requires.opens.0 in
    let a = left_is c.journal_role.result journal_role c.args.pass.now.view c.split-writer.new.pass.view (opener found) c.journal_role.ensures c.requires.opens.1 c.split-writer.ensures.left.1 in
    held_is c.index_role.result index_role (behind_writer found).roles c.split-writer.new.pass.view (behind_writer found) c.index_role.ensures a refl held_second

pub split-indexer-requires-clause-weight : goal.split-indexer-requires-clause-weight
split-indexer-requires-clause-weight g c =
    omega (arith, ap (λ (v : View). v.weight) c.requires.opens.1, ap (λ (v : View). v.weight) c.split-writer.ensures.left.1)

pub split-keeper-requires-clause-role : goal.split-keeper-requires-clause-role
split-keeper-requires-clause-role g c =
    let found : List LogItem = c.requires.opens.0 in
    let a = left_is c.journal_role.result journal_role c.args.pass.now.view c.split-writer.new.pass.view (opener found) c.journal_role.ensures c.requires.opens.1 c.split-writer.ensures.left.1 in
    let b = left_is c.index_role.result index_role c.split-writer.new.pass.view c.split-indexer.new.pass.view (behind_writer found) c.index_role.ensures a c.split-indexer.ensures.left.1 in
    held_is c.book_role.result book_role (behind_indexer found).roles c.split-indexer.new.pass.view (behind_indexer found) c.book_role.ensures b refl held_third

pub split-keeper-requires-clause-weight : goal.split-keeper-requires-clause-weight
split-keeper-requires-clause-weight g c =
    omega (
      arith,
      ap (λ (v : View). v.weight) c.requires.opens.1,
      ap (λ (v : View). v.weight) c.split-writer.ensures.left.1,
      ap (λ (v : View). v.weight) c.split-indexer.ensures.left.1,
    )

pub split-linker-requires-clause-role : goal.split-linker-requires-clause-role
split-linker-requires-clause-role g c =
    let found : List LogItem = c.requires.opens.0 in
    let a = left_is c.journal_role.result journal_role c.args.pass.now.view c.split-writer.new.pass.view (opener found) c.journal_role.ensures c.requires.opens.1 c.split-writer.ensures.left.1 in
    let b = left_is c.index_role.result index_role c.split-writer.new.pass.view c.split-indexer.new.pass.view (behind_writer found) c.index_role.ensures a c.split-indexer.ensures.left.1 in
    let d = left_is c.book_role.result book_role c.split-indexer.new.pass.view c.split-keeper.new.pass.view (behind_indexer found) c.book_role.ensures b c.split-keeper.ensures.left.1 in
    held_is c.tree_role.result tree_role (behind_keeper found).roles c.split-keeper.new.pass.view (behind_keeper found) c.tree_role.ensures d refl held_fourth

pub split-linker-requires-clause-weight : goal.split-linker-requires-clause-weight
split-linker-requires-clause-weight g c =
    omega (
      arith,
      ap (λ (v : View). v.weight) c.requires.opens.1,
      ap (λ (v : View). v.weight) c.split-writer.ensures.left.1,
      ap (λ (v : View). v.weight) c.split-indexer.ensures.left.1,
      ap (λ (v : View). v.weight) c.split-keeper.ensures.left.1,
    )

-- each has its role alone, and has seen and knows what was found
pub returns-clause-writer : goal.returns-clause-writer
returns-clause-writer g c found opens =
    let is = right_is c.journal_role.result journal_role c.args.pass.now.view c.split-writer.result.view (opener found) c.journal_role.ensures opens c.split-writer.ensures.right.1 in
    record {
      keeper = keeper_is c.args.tip.now.table journal_role c.split-writer.result (opener found) (c.split-writer.ensures.right.0 ∙ c.requires.table) is;
      seen = ap (λ (v : View). v.seen) is;
      least = ap (λ (v : View). v.least) is;
    }

pub returns-clause-indexer : goal.returns-clause-indexer
returns-clause-indexer g c found opens =
    let a = left_is c.journal_role.result journal_role c.args.pass.now.view c.split-writer.new.pass.view (opener found) c.journal_role.ensures opens c.split-writer.ensures.left.1 in
    let is = right_is c.index_role.result index_role c.split-writer.new.pass.view c.split-indexer.result.view (behind_writer found) c.index_role.ensures a c.split-indexer.ensures.right.1 in
    let of = c.split-indexer.ensures.right.0 ∙ c.split-writer.ensures.left.0 ∙ c.requires.table in
    record {
      keeper = keeper_is c.args.tip.now.table index_role c.split-indexer.result (behind_writer found) of is;
      seen = ap (λ (v : View). v.seen) is;
      least = ap (λ (v : View). v.least) is;
    }

pub returns-clause-keeper : goal.returns-clause-keeper
returns-clause-keeper g c found opens =
    let a = left_is c.journal_role.result journal_role c.args.pass.now.view c.split-writer.new.pass.view (opener found) c.journal_role.ensures opens c.split-writer.ensures.left.1 in
    let b = left_is c.index_role.result index_role c.split-writer.new.pass.view c.split-indexer.new.pass.view (behind_writer found) c.index_role.ensures a c.split-indexer.ensures.left.1 in
    let is = right_is c.book_role.result book_role c.split-indexer.new.pass.view c.split-keeper.result.view (behind_indexer found) c.book_role.ensures b c.split-keeper.ensures.right.1 in
    let of = c.split-keeper.ensures.right.0 ∙ c.split-indexer.ensures.left.0 ∙ c.split-writer.ensures.left.0 ∙ c.requires.table in
    record {
      keeper = keeper_is c.args.tip.now.table book_role c.split-keeper.result (behind_indexer found) of is;
      seen = ap (λ (v : View). v.seen) is;
      least = ap (λ (v : View). v.least) is;
    }

pub returns-clause-linker : goal.returns-clause-linker
returns-clause-linker g c found opens =
    let a = left_is c.journal_role.result journal_role c.args.pass.now.view c.split-writer.new.pass.view (opener found) c.journal_role.ensures opens c.split-writer.ensures.left.1 in
    let b = left_is c.index_role.result index_role c.split-writer.new.pass.view c.split-indexer.new.pass.view (behind_writer found) c.index_role.ensures a c.split-indexer.ensures.left.1 in
    let d = left_is c.book_role.result book_role c.split-indexer.new.pass.view c.split-keeper.new.pass.view (behind_indexer found) c.book_role.ensures b c.split-keeper.ensures.left.1 in
    let is = right_is c.tree_role.result tree_role c.split-keeper.new.pass.view c.split-linker.result.view (behind_keeper found) c.tree_role.ensures d c.split-linker.ensures.right.1 in
    let of = c.split-linker.ensures.right.0 ∙ c.split-keeper.ensures.left.0 ∙ c.split-indexer.ensures.left.0 ∙ c.split-writer.ensures.left.0 ∙ c.requires.table in
    record {
      keeper = keeper_is c.args.tip.now.table tree_role c.split-linker.result (behind_keeper found) of is;
      seen = ap (λ (v : View). v.seen) is;
      least = ap (λ (v : View). v.least) is;
    }

-- the weight stays where it was
pub returns-clause-left : goal.returns-clause-left
returns-clause-left g c found opens =
    let a = left_is c.journal_role.result journal_role c.args.pass.now.view c.split-writer.new.pass.view (opener found) c.journal_role.ensures opens c.split-writer.ensures.left.1 in
    let b = left_is c.index_role.result index_role c.split-writer.new.pass.view c.split-indexer.new.pass.view (behind_writer found) c.index_role.ensures a c.split-indexer.ensures.left.1 in
    let d = left_is c.book_role.result book_role c.split-indexer.new.pass.view c.split-keeper.new.pass.view (behind_indexer found) c.book_role.ensures b c.split-keeper.ensures.left.1 in
    let is = left_is c.tree_role.result tree_role c.split-keeper.new.pass.view c.split-linker.new.pass.view (behind_keeper found) c.tree_role.ensures d c.split-linker.ensures.left.1 in
    let of = c.split-linker.ensures.left.0 ∙ c.split-keeper.ensures.left.0 ∙ c.split-indexer.ensures.left.0 ∙ c.split-writer.ensures.left.0 ∙ c.requires.table in
    let whole = ap (λ (v : View). v.weight) is in
    record {
      pass_is = (of, ap (λ (v : View). v.roles) is, omega (arith, whole));
      whole = whole;
      seen = ap (λ (v : View). v.seen) is;
      least = ap (λ (v : View). v.least) is;
      own = ap (λ (v : View). v.own) is;
      leaves = ap (λ (v : View). v.leaves) is;
      faults = ap (λ (v : View). v.faults) is;
    }
