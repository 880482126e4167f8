use Rattle.std.proofs.Common.{◌≡◌, ◌+◌, ◌*◌, ◌/◌, ◌%◌, ℕ, arith, ap, sym, ◌∙◌}
use Rattle.im_mtree.specs.Ways.{sides}
use Rattle.im_atree.specs.Grows.{grow_sides}
use Rattle.im_atree.proofs.GrowLemmas.{grow-even, grow-odd}
use Rattle.im_atree.proofs.growths.first_place.Goals as goal

pub loop-place-preserved : goal.loop-place-preserved
loop-place-preserved c =
    let i : ℕ = c.loop-place.place.index in
    let r : ℕ = c.loop-place.place.last in
    let odd : i % 2 ≡ 1 = grind (arith, c.loop-place-test.true) in
    let up = c.above-place.ensures in
    let within = c.loop-place.invariant.within in
    let e : grow_sides (i + 1) (r + 1) ≡ grow_sides (i / 2 + 1) (r / 2 + 1) =
    grow-even (r + 1) (i + 1) (r + 1) (i / 2 + 1) (r / 2 + 1) (omega arith) (omega arith) (omega arith) (omega arith) (omega arith) (omega arith) in
    record {
      within = omega (arith, up.index, up.last, odd, within);
      lower = omega (arith, up.last, c.loop-place.invariant.lower);
      same = ap (λ x. grow_sides (x + 1) (c.above-place.result.last + 1)) up.index ∙ ap (λ x. grow_sides (i / 2 + 1) (x + 1)) up.last ∙ sym e ∙ c.loop-place.invariant.same;
    }

pub returns-clause-same : goal.returns-clause-same
returns-clause-same c =
    let i : ℕ = c.loop-place.place.index in
    let r : ℕ = c.loop-place.place.last in
    let even : i % 2 ≡ 0 = grind (arith, c.loop-place-test.false) in
    let twice : i ≡ 2 * (i / 2) = omega (arith, even) in
    let within = c.loop-place.invariant.within in
    ap (λ x. sides (r + 1) x) twice
    ∙ sym (grow-odd (r + 1) (i + 1) (r + 1) (i / 2) (omega arith) (omega arith) (omega arith))
    ∙ c.loop-place.invariant.same
