use Rattle.std.proofs.Common.{◌≡◌, ◌∷◌, [], ◌++◌, List, map, take, ap, sym, ◌∙◌}
use Rattle.std.proofs.lemmas.List.{map_more}
use Rattle.im_sqlmodel.specs.Conditions.{named_of}
use Rattle.im_sqlmodel.specs.declared.tables.Column.{Column}
use Rattle.im_sqlmodel.specs.declared.tables.Nameable.{Nameable}
use Rattle.im_expr.proofs.scopes.columns_named.Goals as goal

pub loop-column-preserved : goal.loop-column-preserved
loop-column-preserved c =
    let columns : List Column = c.args.columns.now in
    let column : Column = c.column-item.result in
    let at = c.loop-column.column-index in
    let made : Nameable = record { name = c.in_ok-name.name; kind = c.kind.result } in
    let same : made ≡ named_of column = λ i. record { name = (c.in_ok-name.ensures ∙ c.as_slice.ensures) i; kind = c.kind.ensures i } in
    c.in_ok-push.ensures.items
    ∙ ap (λ (named : List Nameable). named ++ made ∷ []) c.loop-column.invariant
    ∙ ap (λ (last : Nameable). map named_of (take at columns) ++ last ∷ []) (same ∙ ap named_of c.column-item.is)
    ∙ sym (map_more named_of columns at column c.loop-column-test.true)
