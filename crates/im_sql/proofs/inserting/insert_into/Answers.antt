use Rattle.std.proofs.Common.{List, take, sym, subst, ◌∙◌}
use Rattle.std.proofs.lemmas.List.{length-take-le}
use Rattle.im_sqlmodel.specs.Rows.{IndexesAre}
use Rattle.im_sqlmodel.specs.Writes.{inserted}
use Rattle.im_sqlmodel.specs.declared.tables.SqlIndex.{SqlIndex}
use Rattle.im_sqlmodel.proofs.KeptLemmas.{kept-sound}
use Rattle.im_catalog.proofs.OneLemmas.{one-indexes}
use Rattle.im_sql.specs.Writing.{Answers}
use Rattle.im_sql.proofs.AnswerLemmas.{inserted-fault, inserted-rows}
use Rattle.im_sql.proofs.inserting.insert_into.Goals as goal

pub indexes-requires : goal.indexes-requires
indexes-requires g c = let r = c.requires.view in (r.0, r.1, r.2, kept-sound (take c.args.n r.0) r.4, r.5)

pub insert_under-answer-requires-clause-view : goal.insert_under-answer-requires-clause-view
insert_under-answer-requires-clause-view g c =
    let r = c.requires.view in
    let h = take c.args.n r.0 in
    (r.0, r.1, r.2, r.3, r.4, r.5, subst (IndexesAre h c.args.table.now) (sym c.as_slice.ensures) (c.in_ok-indexes.ensures r.0 r.1 r.2 (kept-sound h r.4) r.5))

pub returns-in-Some : goal.returns-in-Some
returns-in-Some g c = λ history stands few is kept of indexes rows are all.
    inserted-fault (take c.args.n history) c.args.fresh c.args.insertion.now c.args.table.now indexes rows c.in-Some.fault (sym c.in-Some.is ∙ c.in_ok-fault.ensures)

pub returns : goal.returns
returns g c = λ history stands few is kept of indexes rows are all.
    let h = take c.args.n history in
    let t = c.args.table.now in
    let own = subst (IndexesAre h t) (sym c.as_slice.ensures) (c.in_ok-indexes.ensures history stands few (kept-sound h kept) of) in
    let same = one-indexes h t c.as_slice.result.now indexes of.0 own are in
    subst (λ (found : List SqlIndex). Answers c.insert_under-answer.result (inserted h c.args.fresh c.args.insertion.now t found rows)) same
    (inserted-rows h c.args.fresh c.args.insertion.now t c.as_slice.result.now rows c.args.n c.insert_under-answer.result (length-take-le c.args.n history few)
    (sym c.in_default.is ∙ c.in_ok-fault.ensures) (c.insert_under-answer.ensures history stands few is kept of own rows all))
