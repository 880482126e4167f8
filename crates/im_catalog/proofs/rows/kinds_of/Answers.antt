use Rattle.std.proofs.Common.{◌∷◌, [], ◌++◌, List, map, take, ap, sym, ◌∙◌}
use Rattle.std.proofs.lemmas.List.{map_more}
use Rattle.im_sqltype.specs.Kinds.{kind_of}
use Rattle.im_sqltype.specs.declared.kinds.ValueKind.{ValueKind}
use Rattle.im_sqlmodel.specs.declared.tables.Column.{Column}
use Rattle.im_catalog.proofs.rows.kinds_of.Goals as goal

abbrev kind : Column → ValueKind
kind column = kind_of column.holds

pub loop-column-preserved : goal.loop-column-preserved
loop-column-preserved c =
    let columns : List Column = c.as_slice-columns.result.now in
    let at = c.loop-column.column-index in
    c.in_ok-push.ensures.items
    ∙ ap (λ (kinds : List ValueKind). kinds ++ c.kind.result ∷ []) c.loop-column.invariant
    ∙ ap (λ (last : ValueKind). map kind (take at columns) ++ last ∷ []) (c.kind.ensures ∙ ap kind c.column-item.is)
    ∙ sym (map_more kind columns at c.column-item.result c.loop-column-test.true)
