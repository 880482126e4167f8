use Rattle.std.proofs.Common.{arith}
use Rattle.im_levels.proofs.LevelLemmas.{seven-ones}
use Rattle.im_atree.proofs.laws.root_of_seven.Goals as goal

pub returns : goal.returns
returns g c = omega (arith, c.root_steps.ensures.cost, seven-ones)
