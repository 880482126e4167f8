use Rattle.std.proofs.Common.{arith}
use Rattle.im_index.proofs.SpanLemmas.{span-order}
use Rattle.im_index.proofs.search.span.Goals as goal

pub returns-clause-order : goal.returns-clause-order
returns-clause-order g c =
    span-order c.args.key.now c.args.n c.args.run.now c.place-from.result c.place-to.result c.place-from.ensures.within c.place-from.ensures.parted c.place-to.ensures.parted

pub returns-clause-cost : goal.returns-clause-cost
returns-clause-cost g c = λ b fits. omega (arith, c.place-from.ensures.cost b fits, c.place-to.ensures.cost b fits)
