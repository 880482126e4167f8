use Rattle.std.proofs.Common.{rules, List}
use Rattle.std.proofs.lemmas.Fn.{filter_same}
use Rattle.im_sqltype.specs.declared.values.Value.{Value}
use Rattle.im_sqlmodel.specs.Conditions.{meets}
use Rattle.im_plan.proofs.found.keep_revisions.Goals as goal

pub returns : goal.returns
returns c = filter_same _ (λ (row : List Value). meets c.args.scope.now c.args.condition.now row) _ (λ x b f' k. search rules) _ _ c.retain.ensures.filtered
