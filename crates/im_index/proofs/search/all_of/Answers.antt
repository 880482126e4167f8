use Rattle.im_index.proofs.SpanLemmas.{span-found}
use Rattle.im_index.proofs.search.all_of.Goals as goal

pub returns-clause-versions : goal.returns-clause-versions
returns-clause-versions g c =
    span-found c.args.key.now c.args.n c.args.run.now c.span-from.result.0 c.span-from.result.1 c.requires.counted c.span-from.ensures.within c.span-from.ensures.order
    c.span-from.ensures.first c.span-from.ensures.last
