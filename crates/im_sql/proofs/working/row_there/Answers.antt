use Rattle.std.proofs.Common.{◌≡◌, ℕ, List, Option, Some, None, take, sym, ap, subst, ◌∙◌}
use Rattle.im_sqltype.specs.Texts.{row_text}
use Rattle.im_sqlmodel.specs.Rows.{columns_of, key_of}
use Rattle.im_sqlmodel.specs.Writes.{stored_at}
use Rattle.im_sqlmodel.specs.declared.rows.StoredRow.{StoredRow}
use Rattle.im_catalog.specs.Rows.{RowAt}
use Rattle.im_catalog.proofs.FoundLemmas.{if-ok}
use Rattle.im_sql.specs.Writing.{written_at}
use Rattle.im_sql.proofs.LookLemmas.{text-there, row-told, none-there, stood-there}
use Rattle.im_sql.proofs.working.row_there.Goals as goal

pub written_row-requires : goal.written_row-requires
written_row-requires g c =
    let t = c.args.table.now in
    let row = c.args.row.now in
    let w = c.requires.working in
    let key = c.as_slice.ensures ∙ c.in_ok-key.ensures in
    let at = subst (λ (k : List ℕ). written_at c.args.writes.now k ≡ Some (Some c.in-Some-Some.text)) key (sym c.in-Some-Some.ensures ∙ ap (λ (o : Option (List ℕ)). Some o) c.in-Some-Some.field-0-is) in
    let there = text-there t w.0 w.1 w.2 c.args.writes.now w.3 row c.in-Some-Some.text at in
    (there.0, there.1.0, c.as_slice-in-Some-Some.ensures ∙ c.in_ok-key.ensures ∙ there.1.1, c.as_slice-in-Some-Some-2.ensures ∙ there.1.2)

pub row_at-requires-clause-front : goal.row_at-requires-clause-front
row_at-requires-clause-front g c = (row_text (columns_of c.args.row.now c.args.table.now.key), c.as_slice-in-None.ensures ∙ c.in_ok-key.ensures)

pub returns-in-Some-Some : goal.returns-in-Some-Some
returns-in-Some-Some g c = λ history stands few sound of indexes stood rows all working.
    let key = c.as_slice.ensures ∙ c.in_ok-key.ensures in
    let at = subst (λ (k : List ℕ). written_at c.args.writes.now k ≡ Some (Some c.in-Some-Some.text)) key (sym c.in-Some-Some.ensures ∙ ap (λ (o : Option (List ℕ)). Some o) c.in-Some-Some.field-0-is) in
    let told = c.in_ok-stored-in-Some-Some.ensures in
    row-told c.args.table.now indexes stood rows c.args.writes.now working c.args.row.now c.in-Some-Some.text c.in_ok-stored-in-Some-Some.stored at told.0 told.1
    (sym c.as_slice-in-Some-Some-2.ensures ∙ told.2)

pub returns-in-Some-None : goal.returns-in-Some-None
returns-in-Some-None g c = λ history stands few sound of indexes stood rows all working.
    let key = c.as_slice.ensures ∙ c.in_ok-key.ensures in
    let at = subst (λ (k : List ℕ). written_at c.args.writes.now k ≡ Some None) key (sym c.in-Some-None.ensures ∙ ap (λ (o : Option (List ℕ)). Some o) c.in-Some-None.field-0-is) in
    none-there c.args.table.now indexes stood rows c.args.writes.now working c.args.row.now at

pub returns : goal.returns
returns g c = λ history stands few sound of indexes stood rows all working.
    let h = take c.args.n history in
    let t = c.args.table.now in
    let key = c.as_slice.ensures ∙ c.in_ok-key.ensures in
    let at = subst (λ (k : List ℕ). written_at c.args.writes.now k ≡ None) key (sym c.in-None.ensures) in
    let own = c.as_slice-in-None.ensures ∙ c.in_ok-key.ensures in
    if-ok (RowAt h t c.as_slice-in-None.result.now) (λ (found : Option StoredRow). found ≡ stored_at t rows (key_of t c.args.row.now)) c.row_at.result
    (λ found is. stood-there t indexes stood rows c.args.writes.now working h c.args.row.now found all at (subst (λ (k : List ℕ). RowAt h t k found) own is))
    (c.row_at.ensures history stands few sound of)
