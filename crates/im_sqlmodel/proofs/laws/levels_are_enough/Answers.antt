use Rattle.im_sqlmodel.proofs.LevelLemmas.{filter_settles}
use Rattle.im_sqlmodel.proofs.laws.levels_are_enough.Goals as goal

pub returns-clause-faults : goal.returns-clause-faults
returns-clause-faults c rev filter scope levels is enough = (filter_settles rev filter is).faults levels scope enough

pub returns-clause-rows : goal.returns-clause-rows
returns-clause-rows c rev filter scope row levels is enough = (filter_settles rev filter is).rows levels scope row enough
