use Rattle.std.proofs.Common.{◌∷◌, [], ◌++◌, List, map, take, ap, sym, ◌∙◌, arith}
use Rattle.std.proofs.lemmas.List.{map_more, take_all}
use Rattle.im_sqltype.specs.declared.values.Value.{Value}
use Rattle.im_sqlmodel.specs.Selects.{columns_shown}
use Rattle.im_plan.proofs.cuts.shown_rows.Goals as goal

pub loop-row-preserved : goal.loop-row-preserved
loop-row-preserved c =
    let row : List Value → List Value = columns_shown c.args.scope.now c.args.select.now.columns in
    let kept = c.cut-kept.result.now in
    let at = c.loop-row.row-index in
    c.in_ok-push.ensures.items
    ∙ ap (λ (shown : List (List Value)). shown ++ c.in_ok-row.row ∷ []) c.loop-row.invariant
    ∙ ap (λ (last : List Value). map row (take at kept) ++ last ∷ []) (c.in_ok-row.ensures ∙ ap row c.row-item.is)
    ∙ sym (map_more row kept at c.row-item.result c.loop-row-test.true)

pub returns : goal.returns
returns c =
    let row : List Value → List Value = columns_shown c.args.scope.now c.args.select.now.columns in
    c.from_vec.ensures ∙ c.loop-row.invariant ∙ ap (map row) (take_all c.loop-row.row-index c.cut-kept.result.now (omega arith)) ∙ ap (map row) c.cut-kept.ensures
