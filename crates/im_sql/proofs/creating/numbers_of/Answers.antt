use Rattle.std.proofs.Common.{Bor, ◌∷◌, [], ◌++◌, List, ℕ, map, ap, ◌∙◌, arith}
use Rattle.std.proofs.lemmas.List.{take_all}
use Rattle.im_sqlmodel.specs.Creations.{column_number}
use Rattle.im_sql.proofs.MapLemmas.{map-step}
use Rattle.im_sql.proofs.creating.numbers_of.Goals as goal

pub loop-name-preserved : goal.loop-name-preserved
loop-name-preserved c =
    let columns : List (List ℕ) = map (λ (n : Bor (List ℕ)). n.now) c.args.columns.now in
    map-step (column_number columns) c.args.names.now c.loop-name.name-index c.name-item.result [] c.loop-name.numbers.items c.push.new.self.items
    c.loop-name-test.true c.name-item.is c.loop-name.invariant
    (c.in_ok-push.ensures.items ∙ ap (λ (last : ℕ). c.loop-name.numbers.items ++ last ∷ []) (c.column_number.ensures ∙ ap (column_number columns) c.as_slice.ensures))

pub returns : goal.returns
returns c =
    let columns : List (List ℕ) = map (λ (n : Bor (List ℕ)). n.now) c.args.columns.now in
    c.from_vec.ensures ∙ c.loop-name.invariant ∙ ap (map (column_number columns)) (take_all c.loop-name.name-index c.args.names.now (omega arith))
