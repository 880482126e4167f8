use Rattle.std.proofs.Common.{◌≡◌, ◌∙◌, ℕ, List, IfOk, Vec, Global, filter, bytes_eq, take, sym, subst}
use Rattle.im_versions.specs.Versions.{begins_with}
use Rattle.im_sqltype.specs.Texts.{row_text}
use Rattle.im_sqlmodel.specs.Rows.{key_of}
use Rattle.im_sqlmodel.specs.Writes.{entry_written}
use Rattle.im_sqlmodel.specs.declared.rows.StoredRow.{StoredRow}
use Rattle.im_sqlmodel.specs.declared.tables.SqlIndex.{SqlIndex}
use Rattle.im_catalog.specs.Rows.{RowsFrom}
use Rattle.im_catalog.proofs.FoundLemmas.{if-ok}
use Rattle.im_catalog.proofs.FrontLemmas.{rows-of-front}
use Rattle.im_plan.specs.Bounds.{leading}
use Rattle.im_plan.specs.Plans.{IsWay, is_reached}
use Rattle.im_plan.specs.declared.ways.Way.{Way}
use Rattle.im_plan.proofs.BestLemmas.{index-is, index-of}
use Rattle.im_plan.proofs.found.rows_reached.Goals as goal

pub one_row-requires-clause-front : goal.one_row-requires-clause-front
one_row-requires-clause-front g c =
    let t = c.args.table.now in
    let leads = c.requires.way in
    let is = subst (λ (w : Way). IsWay t c.args.indexes.now leads.0 w) c.in-Row.is leads.1 in
    (row_text (leading leads.0 t t.key), c.as_slice.ensures ∙ is.1)

pub rows_from-requires-clause-front : goal.rows_from-requires-clause-front
rows_from-requires-clause-front g c =
    let t = c.args.table.now in
    let leads = c.requires.way in
    let is = subst (λ (w : Way). IsWay t c.args.indexes.now leads.0 w) c.in-Rows.is leads.1 in
    (row_text (leading leads.0 t t.key), c.as_slice-in-Rows.ensures ∙ is)

pub rows_of_entries-requires-clause-view : goal.rows_of_entries-requires-clause-view
rows_of_entries-requires-clause-view g c =
    let t = c.args.table.now in
    let r = c.requires.view in
    let leads = c.requires.way in
    let is = subst (λ (w : Way). IsWay t c.args.indexes.now leads.0 w) c.in-Entries.is leads.1 in
    (r.0, r.1, r.2, r.3, index-of (take c.args.n r.0) t c.args.indexes.now c.in-Entries.index c.index-indexes-index.result r.4 r.5 is.0 c.index-indexes-index.is)

pub returns-in-Row : goal.returns-in-Row
returns-in-Row g c = λ history stands few sound of are rows all.
    let t = c.args.table.now in
    subst (λ (w : Way). IfOk c.one_row.result (λ (found : Vec StoredRow Global). found.items ≡ filter (λ s. is_reached t c.args.indexes.now w s.row) rows)) (sym c.in-Row.is)
    (subst (λ (k : List ℕ). IfOk c.one_row.result (λ (found : Vec StoredRow Global). found.items ≡ filter (λ s. bytes_eq (key_of t s.row) k) rows)) c.as_slice.ensures
    (c.one_row.ensures history stands few sound of rows all))

pub returns-in-Rows : goal.returns-in-Rows
returns-in-Rows g c = λ history stands few sound of are rows all.
    let t = c.args.table.now in
    let h = take c.args.n history in
    let leads = c.requires.way in
    let is = subst (λ (w : Way). IsWay t c.args.indexes.now leads.0 w) c.in-Rows.is leads.1 in
    subst (λ (w : Way). IfOk c.rows_from.result (λ (found : Vec StoredRow Global). found.items ≡ filter (λ s. is_reached t c.args.indexes.now w s.row) rows)) (sym c.in-Rows.is)
    (if-ok (λ (found : Vec StoredRow Global). RowsFrom h t c.as_slice-in-Rows.result.now found.items)
    (λ (found : Vec StoredRow Global). found.items ≡ filter (λ s. begins_with c.in-Rows.front (key_of t s.row)) rows) c.rows_from.result
    (λ found some. rows-of-front h t c.in-Rows.front rows found.items (row_text (leading leads.0 t t.key), is) all
    (subst (λ (front : List ℕ). RowsFrom h t front found.items) c.as_slice-in-Rows.ensures some))
    (c.rows_from.ensures history stands few sound of))

pub returns-in-Entries : goal.returns-in-Entries
returns-in-Entries g c = λ history stands few sound of are rows all.
    let t = c.args.table.now in
    let indexes = c.args.indexes.now in
    let h = take c.args.n history in
    let leads = c.requires.way in
    let is = subst (λ (w : Way). IsWay t indexes leads.0 w) c.in-Entries.is leads.1 in
    let own = index-is indexes c.in-Entries.index c.index-indexes-index.result is.0 c.index-indexes-index.is in
    subst (λ (w : Way). IfOk c.rows_of_entries.result (λ (found : Vec StoredRow Global). found.items ≡ filter (λ s. is_reached t indexes w s.row) rows)) (sym c.in-Entries.is)
    (subst (λ (i : SqlIndex). IfOk c.rows_of_entries.result (λ (found : Vec StoredRow Global). found.items ≡ filter (λ s. begins_with c.in-Entries.front (entry_written t s.row i).key) rows)) own
    (subst (λ (front : List ℕ). IfOk c.rows_of_entries.result (λ (found : Vec StoredRow Global). found.items ≡ filter (λ s. begins_with front (entry_written t s.row c.index-indexes-index.result).key) rows)) c.as_slice-in-Entries.ensures
    (c.rows_of_entries.ensures history stands few sound (index-of h t indexes c.in-Entries.index c.index-indexes-index.result of are is.0 c.index-indexes-index.is) rows all)))
