use Rattle.std.proofs.Common.{refl}
use Rattle.im_model.specs.Trees.{node_string}
use Rattle.im_hashed.proofs.AddLemmas.{adds-two}
use Rattle.im_hashed.proofs.lists.add_below.Goals as goal

pub returns-clause-strings : goal.returns-clause-strings
returns-clause-strings g c =
    adds-two c.args.out.now.items c.add_node.new.out.items c.add_node-2.new.out.items
    (node_string c.args.term.now c.args.roots.now.older) (node_string c.args.term.now c.args.roots.now.newer) (node_string c.args.term.now c.args.roots.now.older) (node_string c.args.term.now c.args.roots.now.newer)
    refl refl c.in_ok-older.ensures.strings c.in_ok-newer.ensures.strings
