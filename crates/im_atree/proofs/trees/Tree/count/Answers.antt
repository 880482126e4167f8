use Rattle.std.proofs.Common.{ap, ◌∙◌}
use Rattle.im_levels.specs.Counts.{whole}
use Rattle.im_levels.specs.Leveled.{Stored}
use Rattle.im_atree.proofs.trees.Tree.count.Goals as goal

pub returns-clause-whole : goal.returns-clause-whole
returns-clause-whole c = c.count.ensures ∙ c.self.invariant ∙ ap (λ (v : Stored). whole v.size) c.self.view_is
