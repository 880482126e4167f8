use Rattle.std.proofs.Common.{◌∙◌, take, filter, map, sym, ap, subst}
use Rattle.im_sqlmodel.specs.Conditions.{meets}
use Rattle.im_sqlmodel.specs.Rows.{IndexesAre}
use Rattle.im_sqlmodel.specs.Selects.{SourceIs}
use Rattle.im_sqlmodel.specs.declared.rows.StoredRow.{StoredRow}
use Rattle.im_sqlmodel.proofs.KeptLemmas.{kept-sound}
use Rattle.im_plan.proofs.FilterLemmas.{filter-mapped}
use Rattle.im_plan.proofs.selects.source_rows.Goals as goal

pub indexes-requires : goal.indexes-requires
indexes-requires g c = let r = c.requires.view in (r.0, r.1, r.2, kept-sound (take c.args.n r.0) r.4, r.5)

pub rows_meeting-requires-clause-view : goal.rows_meeting-requires-clause-view
rows_meeting-requires-clause-view g c =
    let r = c.requires.view in
    let h = take c.args.n r.0 in
    let sound = kept-sound h r.4 in
    (r.0, r.1, r.2, sound, r.5, subst (IndexesAre h c.args.table.now) (sym c.as_slice.ensures) (c.in_ok-indexes.ensures r.0 r.1 r.2 sound r.5))

pub returns : goal.returns
returns g c = λ history stands few is kept of rows source.
    let h = take c.args.n history in
    let sound = kept-sound h kept in
    let stored = subst (λ b. SourceIs h c.args.table.now b rows) c.if-select.false source in
    let met = meets c.args.scope.now c.args.select.now.filter in
    let are = subst (IndexesAre h c.args.table.now) (sym c.as_slice.ensures) (c.in_ok-indexes.ensures history stands few sound of) in
    c.in_ok-rows.ensures
    ∙ ap (map (λ (s : StoredRow). s.row)) (c.in_ok-stored.ensures history stands few sound of are stored.0 stored.1)
    ∙ filter-mapped (λ (s : StoredRow). s.row) met stored.0
    ∙ ap (filter met) (sym stored.2)
