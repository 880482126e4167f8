use Rattle.std.proofs.Common.{true≢false, sym, ap, ◌∙◌}
use Rattle.std.proofs.lemmas.Slice.Eq.{bytes_eq-Decides}
use Rattle.im_sqlmodel.specs.Rows.{key_of}
use Rattle.im_catalog.proofs.RowLemmas.{row-apart}
use Rattle.im_catalog.proofs.rows.read_row_of.Goals as goal

pub returns-clause-none : goal.returns-clause-none
returns-clause-none c = λ e row of text key.
    row-apart c.args.table.now c.args.kinds.now c.args.text.now c.args.key.now c.in_ok-own.own c.in_ok-row.row c.requires
    c.in_ok-row.ensures.row.0 c.in_ok-row.ensures.row.1 (c.in_ok-own.ensures ∙ ap (key_of c.args.table.now) c.as_slice.ensures)
    (λ same. true≢false (sym ((bytes_eq-Decides c.as_slice-2.result.now c.args.key.now).1 (c.as_slice-2.ensures ∙ same)) ∙ sym c.if-eq.ensures)) row of text key
