use Rattle.im_model.specs.Trees.{leaf_string}
use Rattle.im_hashed.proofs.AddLemmas.{adds-one}
use Rattle.im_hashed.proofs.parts.add_leaf.Goals as goal

pub returns-clause-strings : goal.returns-clause-strings
returns-clause-strings g c =
    adds-one c.args.out.now.items c.add.new.out.items c.in_ok-octets.octets (leaf_string c.args.digest.now) c.in_ok-octets.ensures c.in_ok-add.ensures
