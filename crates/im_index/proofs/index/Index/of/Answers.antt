use Rattle.std.proofs.Common.{[], arith}
use Rattle.im_index.proofs.index.Index.of.Goals as goal

pub take_all-requires : goal.take_all-requires
take_all-requires c = omega (arith, c.new-index.ensures.taken, c.requires)

pub returns : goal.returns
returns c = c.in_ok-take_all.ensures.taken [] c.new-index.ensures
