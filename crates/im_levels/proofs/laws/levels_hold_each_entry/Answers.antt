use Rattle.std.proofs.Common.{sym, ◌∙◌}
use Rattle.im_levels.proofs.LevelLemmas.{level-entry}
use Rattle.im_levels.proofs.laws.levels_hold_each_entry.Goals as goal

pub returns : goal.returns
returns c = λ hash leaves levels held k j inside. held.rooted k j inside ∙ sym (level-entry hash leaves k j inside)
