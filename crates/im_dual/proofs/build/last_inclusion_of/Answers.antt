use Rattle.std.proofs.Common.{arith, ◌∙◌}
use Rattle.std.proofs.lemmas.Result.{IfOk-weaker}
use Rattle.im_dual.proofs.KeptLemmas.{due-none, due-some}
use Rattle.im_dual.proofs.build.last_inclusion_of.Goals as goal

pub returns-then-size-eq0 : goal.returns-then-size-eq0
returns-then-size-eq0 g c leaves is =
    due-none c.args.size _ _ _ c.if-size-eq0.true (c.from_vec.ensures ∙ c.new.ensures.items)

pub returns-else-size-eq0 : goal.returns-else-size-eq0
returns-else-size-eq0 g c =
    IfOk-weaker c.inclusion.result _ _
    (λ path built leaves is. due-some c.args.size path _ _ (omega arith) (built leaves is))
    c.inclusion.ensures.value
