use Rattle.im_model.specs.Trees.{node_string}
use Rattle.im_hashed.proofs.AddLemmas.{adds-one}
use Rattle.im_hashed.proofs.added.add_node.Goals as goal

pub returns-clause-strings : goal.returns-clause-strings
returns-clause-strings g c =
    adds-one c.args.out.now.items c.add.new.out.items c.in_ok-octets.octets (node_string c.args.children.now.left c.args.children.now.right) c.in_ok-octets.ensures c.in_ok-add.ensures
