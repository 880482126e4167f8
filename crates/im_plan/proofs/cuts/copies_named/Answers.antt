use Rattle.std.proofs.Common.{◌∷◌, [], ◌++◌, List, ℕ, map, take, ap, sym, ◌∙◌, arith}
use Rattle.std.proofs.lemmas.List.{map_more, take_all}
use Rattle.im_sqltype.specs.declared.values.Value.{Value}
use Rattle.im_sqlmodel.specs.Conditions.{value_named}
use Rattle.im_plan.proofs.cuts.copies_named.Goals as goal

pub loop-name-preserved : goal.loop-name-preserved
loop-name-preserved c =
    let value : List ℕ → Value = value_named c.args.scope.now c.args.row.now in
    let names = c.args.names.now in
    let at = c.loop-name.name-index in
    c.in_ok-push.ensures.items
    ∙ ap (λ (shown : List Value). shown ++ c.in_ok-value.value ∷ []) c.loop-name.invariant
    ∙ ap (λ (last : Value). map value (take at names) ++ last ∷ []) (c.in_ok-value.ensures ∙ ap value (c.as_slice.ensures ∙ c.name-item.is))
    ∙ sym (map_more value names at c.name-item.result c.loop-name-test.true)

pub returns : goal.returns
returns c =
    let value : List ℕ → Value = value_named c.args.scope.now c.args.row.now in
    c.from_vec.ensures ∙ c.loop-name.invariant ∙ ap (map value) (take_all c.loop-name.name-index c.args.names.now (omega arith))
