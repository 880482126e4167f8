use Rattle.std.proofs.Common.{Bor, ℕ, Bool, List, [], Some, not, bytes_eq, map, get_or, sym, ap, ◌∙◌}
use Rattle.std.specs.List.{list_any}
use Rattle.std.specs.Option.{option_map}
use Rattle.im_sqlmodel.specs.declared.answers.SqlError.TheVariants as error
use Rattle.im_sql.proofs.NameLemmas.{place-none, place-some, find-more, find-here, find-end}
use Rattle.im_sql.proofs.names.column_fault.Goals as goal

-- stands where a number is beyond the names
abbrev no_name : Bor (List ℕ)
no_name = record { ref_ptr = (0, 0); now = [] }

abbrev lent : Bor (List ℕ) → List ℕ
lent n = n.now

-- a name is none of these
abbrev is_other : List (List ℕ) → List ℕ → Bool
is_other columns name = not (list_any (bytes_eq name) columns)

pub loop-name-preserved : goal.loop-name-preserved
loop-name-preserved c =
    let names = c.args.names.now in
    let columns = map lent c.args.columns.now in
    let i : ℕ = c.loop-name.name-index in
    let some = place-some (bytes_eq (get_or names i no_name).now) columns c.place_of.result c.place_of.ensures (c.is_none.ensures ∙ ap not c.if-is_none.false) in
    find-more lent names i no_name (is_other columns) c.loop-name-test.true (ap not some) ∙ c.loop-name.invariant

pub returns-then-is_none : goal.returns-then-is_none
returns-then-is_none c =
    let names = c.args.names.now in
    let columns = map lent c.args.columns.now in
    let i : ℕ = c.loop-name.name-index in
    let none = place-none (bytes_eq (get_or names i no_name).now) columns c.place_of.result c.place_of.ensures (c.is_none.ensures ∙ ap not c.if-is_none.true) in
    ap (λ (name : List ℕ). Some (error.NoColumn name)) c.in_ok-name.ensures
    ∙ ap (option_map error.NoColumn) (sym (find-here lent names i no_name (is_other columns) c.loop-name-test.true (ap not none)) ∙ c.loop-name.invariant)

pub returns : goal.returns
returns c =
    let names = c.args.names.now in
    let columns = map lent c.args.columns.now in
    ap (option_map error.NoColumn) (sym (find-end lent names c.loop-name.name-index (is_other columns) c.loop-name-test.false) ∙ c.loop-name.invariant)
