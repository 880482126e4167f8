use Rattle.std.proofs.Common.{arith, ◌∙◌}
use Rattle.std.proofs.lemmas.Result.{IfOk-weaker}
use Rattle.im_dual.proofs.KeptLemmas.{due-below, due-beyond}
use Rattle.im_dual.proofs.build.inclusion_of.Goals as goal

pub returns-then-s-size-clause-value : goal.returns-then-s-size-clause-value
returns-then-s-size-clause-value g c =
    IfOk-weaker c.inclusion_along.result _ _
    (λ path built leaves is. due-below c.args.s c.args.size path _ _ c.if-s-size.true (built leaves is))
    c.inclusion_along.ensures.value

pub returns-else-s-size-clause-value : goal.returns-else-s-size-clause-value
returns-else-s-size-clause-value g c leaves is =
    due-beyond c.args.s c.args.size _ _ _ (omega arith) (c.from_vec.ensures ∙ c.new.ensures.items)
