use Rattle.std.proofs.Common.{Bor, ℕ, List, [], Some, bytes_eq, map, take, get_or, sym, ap, ◌∙◌}
use Rattle.std.specs.Option.{option_map}
use Rattle.im_sqlmodel.specs.declared.answers.SqlError.TheVariants as error
use Rattle.im_sql.proofs.NameLemmas.{place-none, place-some, twice-more, twice-here, twice-end}
use Rattle.im_sql.proofs.names.twice_fault.Goals as goal

-- stands where a number is beyond the names
abbrev no_name : Bor (List ℕ)
no_name = record { ref_ptr = (0, 0); now = [] }

abbrev lent : Bor (List ℕ) → List ℕ
lent n = n.now

pub loop-at-preserved : goal.loop-at-preserved
loop-at-preserved c =
    let names = c.args.names.now in
    let i : ℕ = c.loop-at.at in
    let none = place-none (bytes_eq (get_or names i no_name).now) (map lent (take i names)) c.place_of.result c.place_of.ensures (sym c.is_some.ensures ∙ c.if-is_some.false) in
    twice-more lent names i no_name c.loop-at-test.true none ∙ c.loop-at.invariant

pub returns-then-is_some : goal.returns-then-is_some
returns-then-is_some c =
    let names = c.args.names.now in
    let i : ℕ = c.loop-at.at in
    let some = place-some (bytes_eq (get_or names i no_name).now) (map lent (take i names)) c.place_of.result c.place_of.ensures (sym c.is_some.ensures ∙ c.if-is_some.true) in
    ap (λ (name : List ℕ). Some (error.Twice name)) c.in_ok-name.ensures
    ∙ ap (option_map error.Twice) (sym (twice-here lent names i no_name c.loop-at-test.true some) ∙ c.loop-at.invariant)

pub returns : goal.returns
returns c =
    let names = c.args.names.now in
    ap (option_map error.Twice) (sym (twice-end lent names c.loop-at.at (map lent (take c.loop-at.at names)) c.loop-at-test.false) ∙ c.loop-at.invariant)
