use Rattle.std.proofs.Common.{filter, take, ap, ◌∙◌}
use Rattle.im_sqlmodel.specs.Conditions.{meets}
use Rattle.im_sqlmodel.proofs.OnceLemmas.{one-history}
use Rattle.im_plan.proofs.found.revisions_meeting.Goals as goal

pub returns : goal.returns
returns g c = λ history stands few is kept of rows all.
    c.keep_revisions.ensures
    ∙ ap (filter (meets c.args.scope.now c.args.condition.now))
    (one-history (take c.args.n history) c.args.table.now c.in_ok-found.found.items rows (c.in_ok-found.ensures history stands few is kept of) all)
