use Rattle.std.proofs.Common.{arith, ◌∙◌}
use Rattle.std.proofs.lemmas.Result.{IfOk-weaker}
use Rattle.im_dual.proofs.KeptLemmas.{due-none, due-some}
use Rattle.im_dual.proofs.build.consistency_of.Goals as goal

pub returns-then-old-eq0-clause-value : goal.returns-then-old-eq0-clause-value
returns-then-old-eq0-clause-value g c leaves is =
    due-none c.args.old _ _ _ c.if-old-eq0.true (c.from_vec.ensures ∙ c.new.ensures.items)

pub returns-else-old-eq0-clause-value : goal.returns-else-old-eq0-clause-value
returns-else-old-eq0-clause-value g c =
    IfOk-weaker c.consistency_along.result _ _
    (λ list built leaves is. due-some c.args.old list _ _ (omega arith) (built leaves is))
    c.consistency_along.ensures.value
