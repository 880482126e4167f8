use Rattle.std.proofs.Common.{Err, inl, inr, map, take}
use Rattle.im_sqlmodel.specs.Options.{ok_then}
use Rattle.im_sqlmodel.specs.Writes.{row_given, placed}
use Rattle.im_sqlmodel.proofs.KeptLemmas.{kept-sound}
use Rattle.im_catalog.proofs.HistoryLemmas.{history-taken}
use Rattle.im_catalog.proofs.ThereLemmas.{rows-are}
use Rattle.im_sql.specs.Writing.{AreFine, Answers}
use Rattle.im_sql.proofs.AnswerLemmas.{all_rows, placed-after, fault-after, err-told, short-told}
use Rattle.im_sql.proofs.CountLemmas.{indexes-few}
use Rattle.im_sql.proofs.ShortLemmas.{inserted-fine}
use Rattle.im_sql.proofs.inserting.insert_under.Goals as goal

pub placed-requires-clause-table : goal.placed-requires-clause-table
placed-requires-clause-table g c = c.requires.view.5.0

pub placed-requires-clause-few : goal.placed-requires-clause-few
placed-requires-clause-few g c =
    let r = c.requires.view in
    indexes-few (take c.args.n r.0) c.args.table.now c.args.indexes.now (history-taken c.args.n r.0 r.2 r.3) r.6

pub placed-requires-clause-fine : goal.placed-requires-clause-fine
placed-requires-clause-fine g c =
    let r = c.requires.view in
    let h = take c.args.n r.0 in
    let t = c.args.table.now in
    let sound = kept-sound h r.4 in
    let rows = rows-are h t sound r.5 in
    let fine : AreFine c.in_ok-writes.writes = elim (c.in_ok-writes.ensures r.0 r.1 r.2 r.3 r.4 r.5 r.6 rows.0 rows.1) [
      | inl short ↦ absurd (let no : ⊥ = cc in no)
      | inr e ↦ inserted-fine h c.args.fresh t c.args.indexes.now (map (row_given t c.args.insertion.now.columns) c.args.insertion.now.rows) rows.0 c.in_ok-writes.writes (history-taken c.args.n r.0 r.2 r.3) sound r.5 r.6 rows.1 e
    ] in
    fine

pub returns : goal.returns
returns g c = λ history stands few is kept of are rows all.
    let h = take c.args.n history in
    let t = c.args.table.now in
    elim (c.in_ok-writes.ensures history stands few is kept of are rows all) [
      | inl short ↦ absurd (let no : ⊥ = cc in no)
      | inr e ↦ placed-after c.args.n t c.args.indexes.now (all_rows h c.args.fresh c.args.insertion.now t c.args.indexes.now rows) c.in_ok-writes.writes c.placed.result e c.placed.ensures
    ]

pub returns-in_err-writes : goal.returns-in_err-writes
returns-in_err-writes g c = λ history stands few is kept of are rows all.
    let h = take c.args.n history in
    let t = c.args.table.now in
    let indexes = c.args.indexes.now in
    let fault = c.in_err-writes.field-0.0 in
    let taken = all_rows h c.args.fresh c.args.insertion.now t indexes rows in
    let wanted = ok_then taken (λ work. placed c.args.n t indexes work.written) in
    let told : Answers (Err fault) wanted = elim (c.in_err-writes.ensures history stands few is kept of are rows all) [
      | inl short ↦ short-told fault wanted short
      | inr e ↦ fault-after c.args.n t indexes taken fault e
    ] in
    err-told c.from_residual.result fault wanted c.from_residual.ensures.1 told
