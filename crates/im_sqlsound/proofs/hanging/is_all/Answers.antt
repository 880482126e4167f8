use Rattle.std.proofs.Common.{◌≡◌, ℕ, List, length, ap, ◌∙◌, arith}
use Rattle.std.proofs.lemmas.Bool.{eq-eqb, eqb-true}
use Rattle.im_sqlsound.specs.Sounding.{under}
use Rattle.im_sqlsound.proofs.TestLemmas.{test-fails}
use Rattle.im_sqlsound.proofs.hanging.is_all.Goals as goal

-- Names are guesses: under to under-4 in the order of the list, in-Some-2, returns-in-Some-left_of.

pub returns-in_default : goal.returns-in_default
returns-in_default c =
    let shown = c.args.shown.now in
    let first = ap length (c.under.ensures ∙ ap (λ (k : List ℕ). under k shown) c.tables_key.ensures) in
    test-fails (λ all. (let no : ⊥ = omega (arith, all, c.in_default.ensures.none, first, ap length c.under-2.ensures, ap length c.under-3.ensures, ap length c.under-4.ensures) in no))

pub returns-in-Some-left_of : goal.returns-in-Some-left_of
returns-in-Some-left_of c =
    let shown = c.args.shown.now in
    let rest : ℕ = c.in-Some-left_of.rest in
    let first = ap length (c.under.ensures ∙ ap (λ (k : List ℕ). under k shown) c.tables_key.ensures) in (
      λ e. (let none : rest ≡ 0 = eqb-true rest 0 e in
          omega (arith, none, c.in-Some.ensures.some, c.in-Some-left_of.ensures.some, first, ap length c.under-2.ensures, ap length c.under-3.ensures, ap length c.under-4.ensures)),
      λ all. eq-eqb rest 0 (omega (arith, all, c.in-Some.ensures.some, c.in-Some-left_of.ensures.some, first, ap length c.under-2.ensures, ap length c.under-3.ensures, ap length c.under-4.ensures)),
    )

pub returns-in-None : goal.returns-in-None
returns-in-None c =
    let shown = c.args.shown.now in
    let first = ap length (c.under.ensures ∙ ap (λ (k : List ℕ). under k shown) c.tables_key.ensures) in
    test-fails (λ all.
    (let no : ⊥ = omega (arith, all, c.in-Some.ensures.some, c.in-None.ensures.none, first, ap length c.under-2.ensures, ap length c.under-3.ensures, ap length c.under-4.ensures) in no))
