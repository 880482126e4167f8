use Rattle.std.proofs.Common.{ℕ, ◌<◌, All, get_or, subst, arith, refl}
use Rattle.std.proofs.lemmas.List.{take_all}
use Rattle.std.proofs.lemmas.List.Elements.{All-more}
use Rattle.im_catalog.proofs.judged.are_below.Goals as goal

pub loop-number-preserved : goal.loop-number-preserved
loop-number-preserved c =
    let xs = c.args.numbers.now in
    let i = c.loop-number.number-index in
    let here : get_or xs i 0 < c.args.count = omega arith in
    All-more (λ (n : ℕ). n < c.args.count) xs i 0 c.loop-number-test.true c.loop-number.invariant here

pub returns : goal.returns
returns c =
    let xs = c.args.numbers.now in
    (λ _. subst (All (λ (n : ℕ). n < c.args.count)) (take_all c.loop-number.number-index xs (omega arith)) c.loop-number.invariant, λ _. refl)
