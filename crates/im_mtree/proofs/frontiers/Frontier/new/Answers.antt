use Rattle.std.proofs.Common.{[], ap, ◌∙◌, refl, length, reverse, arith}
use Rattle.im_mtree.proofs.SubtreeLemmas.{subtrees-none}
use Rattle.im_mtree.proofs.OnesLemmas.{ones-none}
use Rattle.im_mtree.proofs.frontiers.Frontier.new.Goals as goal

pub invariant_of-result : goal.invariant_of-result
invariant_of-result c = (ap (λ l. length l) c.new.ensures ∙ ones-none, omega arith)

pub returns-clause-leaves : goal.returns-clause-leaves
returns-clause-leaves c hash = record { counted = refl; whole = ap (λ l. reverse l) c.new.ensures ∙ subtrees-none hash [] }
