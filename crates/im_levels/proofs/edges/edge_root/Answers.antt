use Rattle.std.proofs.Common.{arith, sym, subst, ◌∙◌}
use Rattle.im_levels.specs.Leveled.{IsSubtree}
use Rattle.im_levels.proofs.EdgeLemmas.{edge-over}
use Rattle.im_levels.proofs.edges.edge_root.Goals as goal

pub read-requires-clause-aligned : goal.read-requires-clause-aligned
read-requires-clause-aligned g c = subst (λ w. IsSubtree c.args.part.at w) c.if-k-part.true c.front-k.ensures.tree

pub returns-then-k-part-clause-value : goal.returns-then-k-part-clause-value
returns-then-k-part-clause-value g c = c.read.ensures.value (g.H.Hash32.digest c.args.hash.now)

pub returns-then-k-part-clause-cost : goal.returns-then-k-part-clause-cost
returns-then-k-part-clause-cost g c = omega (arith, c.front-k.ensures.digits, c.read.ensures.cost)

pub returns-then-is_over-clause-value : goal.returns-then-is_over-clause-value
returns-then-is_over-clause-value g c =
    edge-over (g.H.Hash32.digest c.args.hash.now) c.args.digests.now c.args.edge.now c.args.part.at c.args.part.width c.requires.made c.requires.some
    (sym c.is_over.ensures ∙ c.if-is_over.true)

pub returns-then-is_over-clause-cost : goal.returns-then-is_over-clause-cost
returns-then-is_over-clause-cost g c = omega (arith, c.front-k.ensures.digits)

pub returns-clause-made : goal.returns-clause-made
returns-clause-made g c = λ some. c.part_root-root.ensures.value

pub returns-clause-cost : goal.returns-clause-cost
returns-clause-cost g c = omega (arith, c.part_root-root.ensures.cost)
