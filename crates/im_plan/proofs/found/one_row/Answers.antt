use Rattle.std.proofs.Common.{◌++◌, ◌∷◌, [], ◌∙◌, List, Some, None, take, ap, subst}
use Rattle.im_sqlmodel.specs.declared.rows.StoredRow.{StoredRow}
use Rattle.im_catalog.specs.Rows.{RowAt}
use Rattle.im_catalog.proofs.FrontLemmas.{row-of-key}
use Rattle.im_plan.proofs.found.one_row.Goals as goal

pub row_at-requires-clause-view : goal.row_at-requires-clause-view
row_at-requires-clause-view g c = c.requires.view

pub returns-in_ok-add-in-Some : goal.returns-in_ok-add-in-Some
returns-in_ok-add-in-Some g c = λ history stands few sound of rows all.
    let h = take c.args.n history in
    c.in_ok-add-in-Some.ensures ∙ ap (λ (xs : List StoredRow). xs ++ c.in-Some.stored ∷ []) c.new-found.ensures.items
    ∙ row-of-key h c.args.table.now c.args.key.now rows (Some c.in-Some.stored) c.requires.front all
    (subst (RowAt h c.args.table.now c.args.key.now) c.in-Some.is (c.in_ok-there.ensures history stands few sound of))

pub returns-in-None : goal.returns-in-None
returns-in-None g c = λ history stands few sound of rows all.
    let h = take c.args.n history in
    c.new-found.ensures.items
    ∙ row-of-key h c.args.table.now c.args.key.now rows None c.requires.front all
    (subst (RowAt h c.args.table.now c.args.key.now) c.in-None.is (c.in_ok-there.ensures history stands few sound of))
