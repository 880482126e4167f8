use Rattle.std.proofs.Common.{◌≡◌, ◌≤◌, ◌-◌, arith, ap, ◌∙◌, count_ones}
use Rattle.im_levels.specs.Leveled.{leaves_of}
use Rattle.im_model.specs.Trees.{root}
use Rattle.im_model.proofs.Lengths.{ones-none}
use Rattle.im_levels.proofs.ReadLemmas.{node-made}
use Rattle.im_levels.proofs.roots.+part_root.Goals as goal

pub returns-then-k-part-clause-value : goal.returns-then-k-part-clause-value
returns-then-k-part-clause-value g t c leaves inside stored =
    let same : c.front-k.result ≡ c.args.part.width = c.if-k-part.true in
    c.read-left.ensures.value (g.H.Hash32.digest c.args.hash.now) leaves (omega arith) stored ∙ ap (λ w. root (g.H.Hash32.digest c.args.hash.now) (leaves_of leaves c.args.part.at w)) same

pub returns-then-k-part-clause-cost : goal.returns-then-k-part-clause-cost
returns-then-k-part-clause-cost g t c =
    let same : c.front-k.result ≡ c.args.part.width = c.if-k-part.true in
    let none : c.args.part.width - c.front-k.result ≡ 0 = omega arith in
    let is : count_ones (c.args.part.width - c.front-k.result) ≡ 0 = ap (λ x. count_ones x) none ∙ ones-none in
    omega (arith, c.front-k.ensures.digits, c.read-left.ensures.cost)

pub overflow_add-rest : goal.overflow_add-rest
overflow_add-rest g t c = omega (arith, c.read-left.ensures.fits)

pub returns-clause-value : goal.returns-clause-value
returns-clause-value g t c leaves inside stored =
    let within : c.front-k.result ≤ c.args.part.width = c.front-k.ensures.within in
    node-made (g.H.Hash32.digest c.args.hash.now) _ _ _ _ _ _
    (c.front-k.ensures.node (g.H.Hash32.digest c.args.hash.now) leaves (omega arith) inside)
    (c.read-left.ensures.value (g.H.Hash32.digest c.args.hash.now) leaves (omega arith) stored)
    (c.part_root-right.ensures.value leaves (omega arith) stored)
    c.node_step.ensures.value
