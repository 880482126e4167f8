use Rattle.std.proofs.Common.{Bor, ◌∷◌, [], ◌++◌, List, ℕ, map, ap, ◌∙◌, arith}
use Rattle.std.proofs.lemmas.List.{map_push, take_all}
use Rattle.im_sqlmodel.specs.declared.tables.Column.{Column}
use Rattle.im_sql.proofs.MapLemmas.{map-step}
use Rattle.im_sql.proofs.names.column_names.Goals as goal

abbrev octets : Bor (List ℕ) → List ℕ
octets lent = lent.now

abbrev name : Column → List ℕ
name column = column.name

pub loop-column-preserved : goal.loop-column-preserved
loop-column-preserved c =
    let lent : List (Bor (List ℕ)) = c.loop-column.lent.items in
    map-step name c.as_slice-columns.result.now c.loop-column.column-index c.column-item.result [] (map octets lent) (map octets c.push.new.self.items)
    c.loop-column-test.true c.column-item.is c.loop-column.invariant
    (ap (map octets) c.in_ok-push.ensures.items ∙ map_push octets lent c.as_slice.result ∙ ap (λ (last : List ℕ). map octets lent ++ last ∷ []) c.as_slice.ensures)

pub returns : goal.returns
returns c =
    c.loop-column.invariant ∙ ap (map name) (take_all c.loop-column.column-index c.as_slice-columns.result.now (omega arith)) ∙ ap (map name) c.as_slice-columns.ensures
