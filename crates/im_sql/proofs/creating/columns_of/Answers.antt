use Rattle.std.proofs.Common.{◌≡◌, ◌∷◌, [], ◌++◌, List, map, ap, ◌∙◌, arith}
use Rattle.std.proofs.lemmas.List.{take_all}
use Rattle.im_sqlparse.specs.declared.statements.ColumnDefinition.{ColumnDefinition}
use Rattle.im_sqlmodel.specs.Creations.{column_of}
use Rattle.im_sqlmodel.specs.declared.tables.Column.{Column}
use Rattle.im_sql.proofs.MapLemmas.{map-step}
use Rattle.im_sql.proofs.creating.columns_of.Goals as goal

pub loop-definition-preserved : goal.loop-definition-preserved
loop-definition-preserved c =
    let definition : ColumnDefinition = c.definition-item.result in
    let made : Column = record { name = c.in_ok-name.name; holds = c.type_of.result; not_null = definition.not_null } in
    let same : made ≡ column_of definition =
    λ i. record { name = (c.in_ok-name.ensures ∙ c.as_slice.ensures) i; holds = c.type_of.ensures i; not_null = definition.not_null } in
    map-step column_of c.args.definitions.now c.loop-definition.definition-index definition [] c.loop-definition.columns.items c.push.new.self.items
    c.loop-definition-test.true c.definition-item.is c.loop-definition.invariant
    (c.in_ok-push.ensures.items ∙ ap (λ (last : Column). c.loop-definition.columns.items ++ last ∷ []) same)

pub returns : goal.returns
returns c =
    c.from_vec.ensures ∙ c.loop-definition.invariant
    ∙ ap (λ (definitions : List ColumnDefinition). map column_of definitions) (take_all c.loop-definition.definition-index c.args.definitions.now (omega arith))
