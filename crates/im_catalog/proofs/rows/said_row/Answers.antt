use Rattle.std.proofs.Common.{Err, ap, ◌∙◌}
use Rattle.im_catalog.proofs.rows.said_row.Goals as goal

pub unreachable-requires : goal.unreachable-requires
unreachable-requires c =
    let has = c.requires.text in
    c.read_row_of.ensures.none (c.in-Err-NotText.is ∙ ap (λ e. Err e) c.in-Err-NotText.field-0-is) has.0 has.1 (c.as_slice-2.ensures ∙ has.3) (c.as_slice.ensures ∙ has.2)
