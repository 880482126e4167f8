use Rattle.std.proofs.Common.{◌≡◌, ◌+◌, ◌-◌, length, arith, refl, ap, ◌∙◌}
use Rattle.im_mtree.specs.Ways.{sides}
use Rattle.im_mtree.proofs.SideLemmas.{sides-one}
use Rattle.im_mtree.proofs.WayLemmas.{meet_level, sides-next}
use Rattle.im_mtree.proofs.UpLemmas.{length-sides, path-short}
use Rattle.im_mtree.proofs.paths.terms_of.Goals as goal

pub loop-place-init : goal.loop-place-init
loop-place-init c =
    let up = c.meeting-place.ensures in
    let all : c.args.width - 1 + 1 ≡ c.args.width = omega arith in
    let way = ap length up.same ∙ ap (λ n. length (sides n c.args.i)) all ∙ length-sides c.args.width c.args.i in
    record { within = up.within; meets = up.met; counted = omega (arith, way) }

pub overflow_add-count : goal.overflow_add-count
overflow_add-count c =
    let all = path-short c.args.width c.args.i (omega arith) in
    let i = c.loop-place.invariant in
    let met = ap length (meet_level c.loop-place.place.last c.loop-place.place.index c.loop-place-test.true i.within (i.meets c.loop-place-test.true).1) in
    omega (arith, i.counted, all, met)

pub loop-place-preserved : goal.loop-place-preserved
loop-place-preserved c =
    let i = c.loop-place.invariant in
    let low = c.above.ensures in
    let up = c.meeting-place-in-loop-place.ensures in
    let met = meet_level c.loop-place.place.last c.loop-place.place.index c.loop-place-test.true i.within (i.meets c.loop-place-test.true).1 in
    let here = ap length (sides-next c.loop-place.place.last c.loop-place.place.index c.loop-place.place.last c.loop-place.place.index c.above.result.last c.above.result.index _ refl met low.last low.index) in
    let next = ap length up.same in
    record {
      within = up.within;
      meets = up.met;
      counted = omega (arith, i.counted, here, next);
    }

pub returns : goal.returns
returns c =
    let none : c.loop-place.place.last ≡ 0 = omega (arith, c.loop-place-test.false) in
    let e = ap (λ r. length (sides (r + 1) c.loop-place.place.index)) none in
    let f = ap length (sides-one c.loop-place.place.index) in
    omega (arith, c.loop-place.invariant.counted, e, f)
