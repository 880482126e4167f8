use Rattle.std.proofs.Common.{Bool, true, false, Option, None, take, refl, sym, ap, ◌∙◌, ◌≡◌, ℕ, List, if◌then◌else◌}
use Rattle.std.specs.Option.{option_map, option_or}
use Rattle.im_sqltype.specs.declared.values.Value.{Value}
use Rattle.im_sqlmodel.specs.Options.{first_found}
use Rattle.im_sqlmodel.specs.Rows.{key_of}
use Rattle.im_sqlmodel.specs.Writes.{duplicate_fault, unique_fault, stored_at}
use Rattle.im_sqlmodel.specs.declared.answers.SqlError.{SqlError}
use Rattle.im_sqlmodel.specs.declared.answers.SqlError.TheVariants as error
use Rattle.im_sqlmodel.specs.declared.rows.StoredRow.{StoredRow}
use Rattle.im_sqlmodel.specs.declared.tables.Table.{Table}
use Rattle.im_catalog.proofs.FoundLemmas.{if-ok}
use Rattle.im_sql.proofs.inserting.met_fault.Goals as goal

-- that a row is there is told of INSERT alone
duplicate-is : (fresh : Bool) (t : Table) (i : ℕ) (row : List Value) (rows : List StoredRow)
    → (if fresh then option_map (λ (s : StoredRow). error.Duplicate i s.tx) (stored_at t rows (key_of t row)) else None) ≡ duplicate_fault fresh t i row rows
duplicate-is true t i row rows = refl
duplicate-is false t i row rows = refl

pub returns-in-Some : goal.returns-in-Some
returns-in-Some g c = λ history stands few is kept of are stood rows all working there.
    let t = c.args.table.now in
    ap (λ (o : Option SqlError). option_or o (first_found (unique_fault (take c.args.n history) t c.args.i c.args.row.now rows) c.args.indexes.now))
    (sym c.in-Some.is ∙ c.duplicate_fault.ensures ∙ ap (λ (o : Option StoredRow). if c.args.fresh then option_map (λ (s : StoredRow). error.Duplicate c.args.i s.tx) o else None) there
    ∙ duplicate-is c.args.fresh t c.args.i c.args.row.now rows)

pub returns : goal.returns
returns g c = λ history stands few is kept of are stood rows all working there.
    let t = c.args.table.now in
    let first = first_found (unique_fault (take c.args.n history) t c.args.i c.args.row.now rows) c.args.indexes.now in
    let none : duplicate_fault c.args.fresh t c.args.i c.args.row.now rows ≡ None =
    sym (c.duplicate_fault.ensures ∙ ap (λ (o : Option StoredRow). if c.args.fresh then option_map (λ (s : StoredRow). error.Duplicate c.args.i s.tx) o else None) there
    ∙ duplicate-is c.args.fresh t c.args.i c.args.row.now rows) ∙ c.in_default.is in
    if-ok (λ (fault : Option SqlError). fault ≡ first) (λ (fault : Option SqlError). fault ≡ option_or (duplicate_fault c.args.fresh t c.args.i c.args.row.now rows) first) c.unique_fault.result
    (λ fault e. e ∙ sym (ap (λ (o : Option SqlError). option_or o first) none))
    (c.unique_fault.ensures history stands few is kept of are stood rows all working)
