use Rattle.std.proofs.Common.{length, arith, ap, sym, ◌∙◌}
use Rattle.im_mtree.proofs.WayLemmas.{not-root, rise-end, walk-next, left-next}
use Rattle.im_atree.specs.Grows.{meet_both}
use Rattle.im_atree.proofs.growths.climb_both.Goals as goal

pub is_left-requires-clause-meets : goal.is_left-requires-clause-meets
is_left-requires-clause-meets g c =
    c.meeting-met.ensures.met (not-root c.meeting-met.result.last c.meeting-met.result.index
    (omega (arith, ap length c.meeting-met.ensures.same, c.loop-term.invariant.exact, c.loop-term-test.true)))

pub loop-term-preserved : goal.loop-term-preserved
loop-term-preserved g c = record {
  within = c.above-place.ensures.within;
  exact = left-next _ _ _ _ _ _ _ _ _ c.meeting-met.ensures.same c.is_left.ensures c.above-place.ensures.last c.above-place.ensures.index c.loop-term.invariant.exact;
  same = walk-next _ _ _ _ _ _ _ _ _ _ _ _ _ c.meeting-met.ensures.same c.is_left.ensures c.above-place.ensures.last c.above-place.ensures.index
      c.loop-term-test.true c.meet_both-roots.ensures c.loop-term.invariant.same;
}

pub returns : goal.returns
returns g c =
    sym (rise-end (meet_both (g.H.Hash32.digest c.args.hash.now)) _ c.loop-term.roots _ (omega (arith, c.loop-term.invariant.exact, c.loop-term-test.false)))
    ∙ c.loop-term.invariant.same
