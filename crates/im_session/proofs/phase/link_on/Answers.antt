use Rattle.im_session.proofs.HelperLemmas.{helper_on, linked_on}
use Rattle.im_session.proofs.phase.link_on.Goals as goal

-- it has seen how many transactions are durable
pub loop-init : goal.loop-init
loop-init g c = record {
  can = tt;
  finite = tt;
  helper = helper_on g.N.TipName.table c.args.pass c.tip.new.pass 0 c.requires c.tip.ensures.later c.tip.ensures.gains;
}

-- it has linked once more
pub loop-preserved : goal.loop-preserved
loop-preserved g c = record {
  can = tt;
  finite = tt;
  helper = linked_on g.N.TipName.table c.loop.pass c.link.new.pass 16 c.link.result c.loop.invariant.helper c.link.ensures.later c.link.ensures.ok c.link.ensures.err;
}
