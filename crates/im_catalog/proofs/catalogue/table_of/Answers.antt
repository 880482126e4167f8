use Rattle.std.proofs.Common.{Err, ap, ◌∙◌}
use Rattle.im_catalog.proofs.catalogue.table_of.Goals as goal

pub unreachable-requires : goal.unreachable-requires
unreachable-requires c =
    let has = c.requires c.if-version.false in
    c.read_table.ensures.none (c.in-Err-NotText.is ∙ ap (λ e. Err e) c.in-Err-NotText.field-0-is) has.0 has.1 has.2 (c.as_slice.ensures ∙ has.3)
