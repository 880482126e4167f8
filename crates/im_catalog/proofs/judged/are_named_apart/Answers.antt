use Rattle.std.proofs.Common.{ℕ, List, Bool, ◌≡◌, ◌≢◌, true≢false, AllPairs, bytes_eq, get_or, take, refl, subst, sym, ap, ◌∙◌, arith}
use Rattle.std.specs.List.{list_any}
use Rattle.std.proofs.lemmas.List.{take_all}
use Rattle.im_sqlmodel.specs.declared.tables.Column.{Column}
use Rattle.im_catalog.proofs.TestLemmas.{names-more, names-not}
use Rattle.im_catalog.proofs.judged.are_named_apart.Goals as goal

-- the test of the name that is lent, and of the column's
lent-name : (columns : List Column) (at : ℕ) (column : Column) (name : List ℕ) (found wanted : Bool) → found ≡ list_any (λ c. bytes_eq c.name name) (take at columns) → found ≡ wanted
    → name ≡ column.name → column ≡ get_or columns at column → list_any (λ c. bytes_eq c.name (get_or columns at column).name) (take at columns) ≡ wanted
lent-name columns at column name found wanted is same lent kept =
    ap (λ (n : List ℕ). list_any (λ (c : Column). bytes_eq c.name n) (take at columns)) (sym (lent ∙ ap (λ (c : Column). c.name) kept)) ∙ sym is ∙ same

pub returns-then-has_name : goal.returns-then-has_name
returns-then-has_name c =
    let columns = c.args.columns.now in
    let column = c.index-columns-at.result in (
      λ is. absurd (true≢false (sym is)),
      λ apart. absurd (names-not columns c.loop-at.at column c.loop-at-test.true
          (lent-name columns c.loop-at.at column c.as_slice.result.now c.has_name.result _ c.has_name.ensures c.if-has_name.true c.as_slice.ensures c.index-columns-at.is) apart),
    )

pub loop-at-preserved : goal.loop-at-preserved
loop-at-preserved c =
    let columns = c.args.columns.now in
    let column = c.index-columns-at.result in
    names-more columns c.loop-at.at column c.loop-at-test.true
    (lent-name columns c.loop-at.at column c.as_slice.result.now c.has_name.result _ c.has_name.ensures c.if-has_name.false c.as_slice.ensures c.index-columns-at.is) c.loop-at.invariant

pub returns : goal.returns
returns c = (λ _. subst (AllPairs (λ (a b : Column). a.name ≢ b.name)) (take_all c.loop-at.at c.args.columns.now (omega arith)) c.loop-at.invariant, λ _. refl)
