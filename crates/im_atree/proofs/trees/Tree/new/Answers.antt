use Rattle.std.proofs.Common.{length, ap, sym, ◌∙◌}
use Rattle.im_levels.proofs.CountLemmas.{whole-none}
use Rattle.im_levels.proofs.FreshLemmas.{leveled-none}
use Rattle.im_atree.proofs.trees.Tree.new.Goals as goal

pub invariant_of-result : goal.invariant_of-result
invariant_of-result c = ap (λ l. length l) c.new.ensures ∙ sym whole-none

pub returns-clause-leaves : goal.returns-clause-leaves
returns-clause-leaves c hash = leveled-none hash _
