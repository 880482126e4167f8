use Rattle.std.proofs.Common.{[], ◌∷◌}
use Rattle.im_hashed.proofs.AddLemmas.{adds-is}
use Rattle.im_hashed.proofs.added.add.Goals as goal

pub returns : goal.returns
returns c = adds-is c.args.out.now.items c.push.new.self.items (c.args.octets ∷ []) c.in_ok-push.ensures.items
