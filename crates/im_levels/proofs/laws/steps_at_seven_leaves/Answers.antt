use Rattle.im_levels.proofs.LevelLemmas.{seven-ones, eighth-leaf}
use Rattle.im_levels.proofs.laws.steps_at_seven_leaves.Goals as goal

pub returns-clause-root : goal.returns-clause-root
returns-clause-root c = seven-ones

pub returns-clause-append : goal.returns-clause-append
returns-clause-append c = eighth-leaf
