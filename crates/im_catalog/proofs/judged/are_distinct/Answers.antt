use Rattle.std.proofs.Common.{◌≢◌, true≢false, AllPairs, refl, subst, sym, ◌∙◌, arith}
use Rattle.std.proofs.lemmas.List.{take_all}
use Rattle.im_catalog.proofs.TestLemmas.{numbers-more, numbers-not}
use Rattle.im_catalog.proofs.judged.are_distinct.Goals as goal

pub returns-then-has_number : goal.returns-then-has_number
returns-then-has_number c =
    (λ is. absurd (true≢false (sym is)), λ apart. absurd (numbers-not c.args.numbers.now c.loop-at.at 0 c.loop-at-test.true (sym c.has_number.ensures ∙ c.if-has_number.true) apart))

pub loop-at-preserved : goal.loop-at-preserved
loop-at-preserved c = numbers-more c.args.numbers.now c.loop-at.at 0 c.loop-at-test.true (sym c.has_number.ensures ∙ c.if-has_number.false) c.loop-at.invariant

pub returns : goal.returns
returns c = (λ _. subst (AllPairs (λ a b. a ≢ b)) (take_all c.loop-at.at c.args.numbers.now (omega arith)) c.loop-at.invariant, λ _. refl)
