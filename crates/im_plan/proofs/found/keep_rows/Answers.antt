use Rattle.std.proofs.Common.{rules}
use Rattle.std.proofs.lemmas.Fn.{filter_same}
use Rattle.im_sqlmodel.specs.Conditions.{meets}
use Rattle.im_sqlmodel.specs.declared.rows.StoredRow.{StoredRow}
use Rattle.im_plan.proofs.found.keep_rows.Goals as goal

pub returns : goal.returns
returns c = filter_same _ (λ (s : StoredRow). meets c.args.scope.now c.args.condition.now s.row) _ (λ x b f' k. search rules) _ _ c.retain.ensures.filtered
