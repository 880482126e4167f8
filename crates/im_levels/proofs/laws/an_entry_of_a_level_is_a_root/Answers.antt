use Rattle.im_levels.proofs.LevelLemmas.{level-entry}
use Rattle.im_levels.proofs.laws.an_entry_of_a_level_is_a_root.Goals as goal

pub returns : goal.returns
returns c = level-entry
