use Rattle.std.proofs.Common.{filter, take, sym, ap, ◌∙◌}
use Rattle.im_sqlmodel.specs.Conditions.{meets}
use Rattle.im_sqlmodel.specs.declared.rows.StoredRow.{StoredRow}
use Rattle.im_plan.specs.Bounds.{conjuncts}
use Rattle.im_plan.specs.Plans.{is_reached}
use Rattle.im_plan.proofs.ReachLemmas.{meeting-same, indexes-formed}
use Rattle.im_plan.proofs.found.rows_meeting.Goals as goal

pub rows_reached-requires-clause-way : goal.rows_reached-requires-clause-way
rows_reached-requires-clause-way g c = (conjuncts c.args.condition.now, c.in_ok-way.ensures.way)

pub returns : goal.returns
returns g c = λ history stands few sound of are rows all.
    let t = c.args.table.now in
    let filtered = c.args.condition.now in
    c.keep_rows.ensures
    ∙ ap (filter (λ (s : StoredRow). meets c.args.scope.now filtered s.row)) (c.in_ok-found.ensures history stands few sound of are rows all)
    ∙ ap (λ names. filter (λ (s : StoredRow). meets names filtered s.row) (filter (λ s. is_reached t c.args.indexes.now c.in_ok-way.way s.row) rows)) c.requires.scope
    ∙ meeting-same t c.args.indexes.now filtered c.in_ok-way.way rows of.0 (indexes-formed (take c.args.n history) t c.args.indexes.now are) c.in_ok-way.ensures.way
    ∙ ap (λ names. filter (λ (s : StoredRow). meets names filtered s.row) rows) (sym c.requires.scope)
