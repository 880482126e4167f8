use Rattle.std.proofs.Common.{Bor, ◌∷◌, [], ◌++◌, List, ℕ, map, ap, ◌∙◌, arith}
use Rattle.std.proofs.lemmas.List.{take_all}
use Rattle.im_sqltype.specs.declared.values.Value.{Value}
use Rattle.im_sqlmodel.specs.Conditions.{literal_value}
use Rattle.im_sqlmodel.specs.Writes.{value_given}
use Rattle.im_sqlmodel.specs.declared.tables.Column.{Column}
use Rattle.im_sql.proofs.MapLemmas.{map-step}
use Rattle.im_sql.proofs.judged.row_given.Goals as goal

pub loop-column-preserved : goal.loop-column-preserved
loop-column-preserved c =
    let names : List (List ℕ) = map (λ (n : Bor (List ℕ)). n.now) c.args.names.now in
    let values : List Value = map literal_value c.args.literals.now in
    map-step (λ (column : Column). value_given names values column.name) c.as_slice-columns.result.now c.loop-column.column-index c.column-item.result [] c.loop-column.row.items c.push.new.self.items
    c.loop-column-test.true c.column-item.is c.loop-column.invariant
    (c.in_ok-push.ensures.items ∙ ap (λ (last : Value). c.loop-column.row.items ++ last ∷ []) (c.in_ok-value.ensures ∙ ap (value_given names values) c.as_slice.ensures))

pub returns : goal.returns
returns c =
    let names : List (List ℕ) = map (λ (n : Bor (List ℕ)). n.now) c.args.names.now in
    let values : List Value = map literal_value c.args.literals.now in
    let given : List Column → List Value = map (λ (column : Column). value_given names values column.name) in
    c.from_vec.ensures ∙ c.loop-column.invariant
    ∙ ap given (take_all c.loop-column.column-index c.as_slice-columns.result.now (omega arith))
    ∙ ap given c.as_slice-columns.ensures
