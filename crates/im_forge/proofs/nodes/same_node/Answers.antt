use Rattle.im_forge.proofs.SameLemmas.{same-nodes}
use Rattle.im_forge.proofs.nodes.same_node.Goals as goal

pub returns : goal.returns
returns g c =
    same-nodes (g.H.Hash32.digest c.args.hash.now) c.args.left.now c.args.right.now c.args.left2.now c.args.right2.now c.in_ok-x.x c.in_ok-y.y c.compared.result
    c.told-left c.told-left2 c.requires c.in_ok-x.ensures c.in_ok-y.ensures c.compared.ensures
