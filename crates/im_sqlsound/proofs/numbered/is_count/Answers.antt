use Rattle.std.proofs.Common.{◌≡◌, ◌≤◌, ℕ, List, length, sym, ap, ◌∙◌, arith}
use Rattle.im_sqlsound.specs.Sounding.{under}
use Rattle.im_sqlsound.proofs.HangLemmas.{count-none, count-long, count-one, nothing-of, some-of, only-one}
use Rattle.im_sqlsound.proofs.TestLemmas.{test-fails}
use Rattle.im_sqlsound.proofs.numbered.is_count.Goals as goal

pub returns-then-is_empty : goal.returns-then-is_empty
returns-then-is_empty c =
    let own = c.under-said.ensures ∙ ap (λ (k : List ℕ). under k c.args.shown.now) c.tables_key.ensures in
    count-none c.args.shown.now c.args.count (sym own ∙ nothing-of c.under-said.result.now (sym c.is_empty.ensures ∙ c.if-is_empty.true))

pub returns-then-said-ne1 : goal.returns-then-said-ne1
returns-then-said-ne1 c =
    let own = c.under-said.ensures ∙ ap (λ (k : List ℕ). under k c.args.shown.now) c.tables_key.ensures in
    let some : 1 ≤ length c.under-said.result.now = some-of c.under-said.result.now (sym c.is_empty.ensures ∙ c.if-is_empty.false) in
    test-fails (λ is. (let long = count-long c.args.shown.now c.args.count is in let no : ⊥ = omega (arith, long, some, c.if-said-ne1.true, ap length own) in no))

pub returns : goal.returns
returns c =
    let own = c.under-said.ensures ∙ ap (λ (k : List ℕ). under k c.args.shown.now) c.tables_key.ensures in
    let v = c.index-said-0.result in
    let one : length c.under-said.result.now ≡ 1 = omega (arith, c.if-said-ne1.false) in
    count-one c.args.shown.now c.args.count v c.says_count.result (sym own ∙ only-one c.under-said.result.now v one c.index-said-0.is) c.says_count.ensures
