use Rattle.std.proofs.Common.{arith}
use Rattle.im_edge.proofs.Parts.{Appends-turn}
use Rattle.im_edge.proofs.sink.write_all.Goals as goal

pub loop-at-preserved : goal.loop-at-preserved
loop-at-preserved g c = record {
  within = omega (arith, c.in-Gave.ensures.octets.0);
  wrote = Appends-turn _ (g.K.Sink.written c.loop-at.sink) _ c.loop-at.at c.in-Gave.n c.args.text.now c.loop-at.invariant.wrote c.in-Gave.ensures.octets.2;
  same = omega (arith, c.in-Gave.ensures.cause);
}
