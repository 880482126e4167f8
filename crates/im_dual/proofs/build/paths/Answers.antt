use Rattle.std.proofs.Common.{take}
use Rattle.im_dual.proofs.AdvanceLemmas.{paths-next}
use Rattle.im_dual.proofs.build.paths.Goals as goal

pub loop-i-preserved : goal.loop-i-preserved
loop-i-preserved g c = record {
  paths = λ leaves is.
      paths-next (g.H.Hash32.digest c.args.hash.now) (take c.args.size leaves) c.loop-i.i c.args.to c.loop-i.paths.items _ _ _ c.loop-i-test.true
      c.in_ok-push.ensures.items (c.in_ok-inclusion_along.ensures.value leaves is) (c.loop-i.invariant.paths leaves is);
  made = c.in_ok-inclusion_along.ensures.made;
}
