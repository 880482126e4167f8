use Rattle.std.proofs.Common.{◌+◌, Bor, ℕ, List, map, ap, ap₂, ◌∙◌}
use Rattle.im_sqlmodel.specs.Creations.{column_number, column_of, names_in}
use Rattle.im_sql.proofs.creating.table_made.Goals as goal

pub returns : goal.returns
returns c =
    let names = ap (map (λ (n : Bor (List ℕ)). n.now)) c.as_slice-2.ensures.value ∙ c.in_ok-names.ensures ∙ ap names_in c.as_slice.ensures in
    let key = c.in_ok-key.ensures ∙ ap₂ (λ (cs ns : List (List ℕ)). map (column_number cs) ns) names c.as_slice-3.ensures in
    let columns = c.in_ok-columns.ensures ∙ ap (map column_of) c.as_slice-4.ensures in
    let name = c.in_ok-name.ensures ∙ c.as_slice-5.ensures in
    λ i. record { tid = c.args.count + 1; name = name i; columns = columns i; key = key i }
