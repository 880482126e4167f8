use Rattle.std.proofs.Common.{inr, Err, None, Some, take, ap, subst, ◌∙◌}
use Rattle.im_sqlmodel.specs.Rows.{TableIs}
use Rattle.im_sqlmodel.specs.declared.answers.SqlError.TheVariants as error
use Rattle.im_sqlmodel.proofs.KeptLemmas.{kept-sound}
use Rattle.im_sqlmodel.specs.Writes.{inserted}
use Rattle.im_sql.proofs.AnswerLemmas.{write-some, write-none}
use Rattle.im_catalog.proofs.ThereLemmas.{table-of}
use Rattle.im_sql.proofs.inserting.insert.Goals as goal

pub table-requires : goal.table-requires
table-requires g c =
    let r = c.requires.view in
    (r.0, r.1, r.2, kept-sound (take c.args.n r.0) r.4)

pub insert_into-answer-requires-clause-view : goal.insert_into-answer-requires-clause-view
insert_into-answer-requires-clause-view g c =
    let r = c.requires.view in
    let h = take c.args.n r.0 in
    let found = c.in_ok-table.ensures r.0 r.1 r.2 (kept-sound h r.4) in
    (r.0, r.1, r.2, r.3, r.4, table-of h c.as_slice.result.now c.in-Some.table (subst (TableIs h c.as_slice.result.now) c.in-Some.is found))

pub returns-in-Some : goal.returns-in-Some
returns-in-Some g c = λ history stands few is kept.
    let h = take c.args.n history in
    let name = c.args.insertion.now.table in
    let sound = kept-sound h kept in
    let there = subst (λ n. TableIs h n (Some c.in-Some.table)) c.as_slice.ensures (subst (TableIs h c.as_slice.result.now) c.in-Some.is (c.in_ok-table.ensures history stands few sound)) in
    write-some h name c.in-Some.table (inserted h c.args.fresh c.args.insertion.now) c.insert_into-answer.result sound there
    (λ indexes rows are all. c.insert_into-answer.ensures history stands few is kept (table-of h name c.in-Some.table there) indexes rows are all)

pub returns-in_ok-table-in-None : goal.returns-in_ok-table-in-None
returns-in_ok-table-in-None g c = λ history stands few is kept.
    let h = take c.args.n history in
    let name = c.args.insertion.now.table in
    let sound = kept-sound h kept in
    let none = subst (λ n. TableIs h n None) c.as_slice.ensures (subst (TableIs h c.as_slice.result.now) c.in-None.is (c.in_ok-table.ensures history stands few sound)) in
    inr (write-none h name (inserted h c.args.fresh c.args.insertion.now) _ none (ap (λ n. Err (error.NoTable n)) (c.in_ok-table-in-None.ensures ∙ c.as_slice-in-None.ensures)))
