use Rattle.im_session.proofs.HelperLemmas.{idle_on}
use Rattle.im_session.proofs.phase.index_on.Goals as goal

-- it has indexed once more
pub loop-preserved : goal.loop-preserved
loop-preserved g c = record {
  can = tt;
  finite = tt;
  idle = idle_on g.N.TipName.table c.loop.pass c.index.new.pass c.loop.invariant.idle c.index.ensures.later c.index.ensures.gains;
}
