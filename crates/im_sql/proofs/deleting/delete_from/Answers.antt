use Rattle.std.proofs.Common.{◌≡◌, List, filter, take, sym, ap, subst, ◌∙◌}
use Rattle.std.proofs.lemmas.List.{length-take-le}
use Rattle.im_sqlmodel.specs.Conditions.{filter_fault, meets}
use Rattle.im_sqlmodel.specs.Rows.{IndexesAre}
use Rattle.im_sqlmodel.specs.Writes.{rows_dropped, erased}
use Rattle.im_sqlmodel.specs.declared.rows.StoredRow.{StoredRow}
use Rattle.im_sqlmodel.specs.declared.tables.Nameable.{Nameable}
use Rattle.im_sqlmodel.specs.declared.tables.SqlIndex.{SqlIndex}
use Rattle.im_sqlmodel.proofs.KeptLemmas.{kept-sound}
use Rattle.im_catalog.proofs.HistoryLemmas.{history-taken}
use Rattle.im_catalog.proofs.OneLemmas.{one-indexes}
use Rattle.im_catalog.proofs.ThereLemmas.{rows-are}
use Rattle.im_sql.specs.Writing.{AreFine, Answers}
use Rattle.im_sql.proofs.AnswerLemmas.{erased-fault, erased-met}
use Rattle.im_sql.proofs.CountLemmas.{indexes-few}
use Rattle.im_sql.proofs.ShortLemmas.{stood-short, erased-fine}
use Rattle.im_sql.proofs.deleting.delete_from.Goals as goal

pub indexes-requires : goal.indexes-requires
indexes-requires g c = let r = c.requires in (r.0, r.1, r.2, kept-sound (take c.args.n r.0) r.4, r.5)

pub rows_meeting-requires-clause-view : goal.rows_meeting-requires-clause-view
rows_meeting-requires-clause-view g c =
    let r = c.requires in
    let h = take c.args.n r.0 in
    let sound = kept-sound h r.4 in
    (r.0, r.1, r.2, sound, r.5, subst (IndexesAre h c.args.table.now) (sym c.as_slice-2.ensures) (c.in_ok-indexes.ensures r.0 r.1 r.2 sound r.5))

pub rows_meeting-requires-clause-scope : goal.rows_meeting-requires-clause-scope
rows_meeting-requires-clause-scope g c = c.as_slice-3.ensures ∙ c.in_ok-scope.ensures

pub erase-answer-requires-clause-table : goal.erase-answer-requires-clause-table
erase-answer-requires-clause-table g c = c.requires.5.0

pub erase-answer-requires-clause-few : goal.erase-answer-requires-clause-few
erase-answer-requires-clause-few g c =
    let r = c.requires in
    let h = take c.args.n r.0 in
    indexes-few h c.args.table.now c.as_slice-4.result.now (history-taken c.args.n r.0 r.2 r.3)
    (subst (IndexesAre h c.args.table.now) (sym c.as_slice-4.ensures) (c.in_ok-indexes.ensures r.0 r.1 r.2 (kept-sound h r.4) r.5))

pub erase-answer-requires-clause-fine : goal.erase-answer-requires-clause-fine
erase-answer-requires-clause-fine g c =
    let r = c.requires in
    let h = take c.args.n r.0 in
    let t = c.args.table.now in
    let sound = kept-sound h r.4 in
    let indexes = c.as_slice-4.result.now in
    let own = c.in_ok-indexes.ensures r.0 r.1 r.2 sound r.5 in
    let are = subst (IndexesAre h t) (sym c.as_slice-4.ensures) own in
    let all = rows-are h t sound r.5 in
    let met : StoredRow → _ = λ (s : StoredRow). meets c.as_slice-3.result.now c.args.delete.now.filter s.row in
    let found = c.as_slice-5.ensures.value ∙ c.in_ok-rows.ensures r.0 r.1 r.2 sound r.5 (subst (IndexesAre h t) (sym c.as_slice-2.ensures) own) all.0 all.1 in
    subst (λ (rows : List StoredRow). AreFine (rows_dropped t indexes rows)) (sym found)
    (erased-fine t indexes met all.0 (stood-short h t indexes all.0 (history-taken c.args.n r.0 r.2 r.3) sound r.5 are all.1))

pub returns-in-Some : goal.returns-in-Some
returns-in-Some g c = λ history stands few is kept of indexes rows are all.
    erased-fault (take c.args.n history) c.args.delete.now c.args.table.now indexes rows c.in-Some.fault
    (sym c.in-Some.is ∙ c.in_ok-fault.ensures ∙ ap (λ (names : List Nameable). filter_fault names c.args.delete.now.filter) (c.as_slice.ensures ∙ c.in_ok-scope.ensures))

pub returns : goal.returns
returns g c = λ history stands few is kept of indexes rows are all.
    let h = take c.args.n history in
    let t = c.args.table.now in
    let s = c.args.delete.now in
    let sound = kept-sound h kept in
    let own = c.in_ok-indexes.ensures history stands few sound of in
    let same = one-indexes h t c.as_slice-4.result.now indexes of.0 (subst (IndexesAre h t) (sym c.as_slice-4.ensures) own) are in
    let scope = c.as_slice-3.ensures ∙ c.in_ok-scope.ensures in
    let found = c.as_slice-5.ensures.value ∙ c.in_ok-rows.ensures history stands few sound of (subst (IndexesAre h t) (sym c.as_slice-2.ensures) own) rows all in
    let met = subst (λ (names : List Nameable). c.as_slice-5.result.now ≡ filter (λ (r : StoredRow). meets names s.filter r.row) rows) scope found in
    subst (λ (those : List SqlIndex). Answers c.erase-answer.result (erased h s t those rows)) same
    (erased-met h s t c.as_slice-4.result.now rows c.as_slice-5.result.now c.args.n c.erase-answer.result (length-take-le c.args.n history few)
    (sym c.in_default.is ∙ c.in_ok-fault.ensures ∙ ap (λ (names : List Nameable). filter_fault names s.filter) (c.as_slice.ensures ∙ c.in_ok-scope.ensures)) met c.erase-answer.ensures)
