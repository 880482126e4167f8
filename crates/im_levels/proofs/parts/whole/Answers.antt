use Rattle.std.proofs.Common.{arith}
use Rattle.im_levels.proofs.CountLemmas.{whole-ones, whole-step}
use Rattle.im_levels.proofs.parts.whole.Goals as goal

-- a number has no more ones than it counts
pub overflow_sub-result : goal.overflow_sub-result
overflow_sub-result c = omega (arith, whole-ones c.args.leaves, whole-step c.args.leaves)

pub overflow_add-result : goal.overflow_add-result
overflow_add-result c = omega (arith, c.requires, whole-ones c.args.leaves, whole-step c.args.leaves)

pub returns : goal.returns
returns c = omega (arith, whole-ones c.args.leaves, whole-step c.args.leaves)
