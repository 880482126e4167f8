use Rattle.std.proofs.Common.{◌≡◌, ◌*◌, ◌^◌, ◌%◌, ◌∙◌, refl, arith}
use Rattle.im_levels.proofs.PartLemmas.{split-unique}
use Rattle.im_levels.proofs.parts.split.Goals as goal

-- the power isn't cut, and is the split
pub returns-clause-value : goal.returns-clause-value
returns-clause-value c =
    let whole : 1 * 2 ^ c.ilog2.result % 18446744073709551616 ≡ 2 ^ c.ilog2.result = omega (arith, c.ilog2.ensures.power_le, c.ranges.n.fits) in
    whole ∙ split-unique c.args.n (2 ^ c.ilog2.result) c.ilog2.result c.requires refl
    (omega (arith, c.ilog2.ensures.power_le, c.requires)) (omega (arith, c.ilog2.ensures.next_power_gt, c.requires))
