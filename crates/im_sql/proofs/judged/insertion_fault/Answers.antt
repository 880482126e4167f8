use Rattle.std.proofs.Common.{◌≡◌, ℕ, Bor, List, length, map, Option, Some, None, refl, sym, ap, ap₂, ◌∙◌}
use Rattle.std.specs.Option.{option_or}
use Rattle.im_sqlparse.specs.declared.statements.Literal.{Literal}
use Rattle.im_sqlmodel.specs.Creations.{column_fault, twice_fault}
use Rattle.im_sqlmodel.specs.Tables.{table_names}
use Rattle.im_sqlmodel.specs.Writes.{count_fault}
use Rattle.im_sqlmodel.specs.declared.answers.SqlError.{SqlError}
use Rattle.im_sql.proofs.judged.insertion_fault.Goals as goal

-- what is wrong with names
abbrev fault_of : List (List ℕ) → List (List ℕ) → Option SqlError
fault_of columns names = option_or (column_fault columns names) (twice_fault names)

or-assoc : {A : Type 0} (a b c : Option A) → option_or (option_or a b) c ≡ option_or a (option_or b c)
or-assoc (Some x) b c = refl
or-assoc None b c = refl

abbrev lent : List (Bor (List ℕ)) → List (List ℕ)
lent names = map (λ (n : Bor (List ℕ)). n.now) names

pub returns-in-Some : goal.returns-in-Some
returns-in-Some c =
    let own = table_names c.args.table.now in
    let names = c.args.insertion.now.columns in
    let count = count_fault 0 (length names) c.args.insertion.now.rows in
    let columns = ap lent c.as_slice.ensures.value ∙ c.in_ok-columns.ensures in
    ap (λ (o : Option SqlError). option_or o count) (sym c.in-Some.is ∙ c.in_ok-fault.ensures ∙ ap₂ fault_of columns c.as_slice-2.ensures)
    ∙ or-assoc (column_fault own names) (twice_fault names) count

pub returns : goal.returns
returns c =
    let own = table_names c.args.table.now in
    let names = c.args.insertion.now.columns in
    let count = count_fault 0 (length names) c.args.insertion.now.rows in
    let columns = ap lent c.as_slice.ensures.value ∙ c.in_ok-columns.ensures in
    c.count_fault.ensures ∙ ap₂ (λ (want : ℕ) (rows : List (List Literal)). count_fault 0 want rows) c.len.ensures c.as_slice-3.ensures
    ∙ ap (λ (o : Option SqlError). option_or o count) (sym c.in_default.is ∙ c.in_ok-fault.ensures ∙ ap₂ fault_of columns c.as_slice-2.ensures)
    ∙ or-assoc (column_fault own names) (twice_fault names) count
