use Rattle.std.proofs.Common.{rules, arith}
use Rattle.std.proofs.lemmas.Grind.{common_steps}
use Rattle.im_sqlparse.specs.Statements.{definitions_from}
use Rattle.im_sqlparse.proofs.Turns.{one_more, no_more}
use Rattle.im_sqlparse.proofs.creations.definitions.Goals as goal

pub returns-in_err-definition : goal.returns-in_err-definition
unfolding definitions_from
returns-in_err-definition c =
    let e = one_more (λ n. definitions_from n c.loop-turn.found c.loop-turn.tokens) _ c.loop-turn._turn c.loop-turn-test.true c.loop-turn.invariant in
    first_of (search rules, grind (arith, common_steps))

pub returns-in_err-expect : goal.returns-in_err-expect
unfolding definitions_from
returns-in_err-expect c =
    let e = one_more (λ n. definitions_from n c.loop-turn.found c.loop-turn.tokens) _ c.loop-turn._turn c.loop-turn-test.true c.loop-turn.invariant in
    first_of (search rules, grind (arith, common_steps))

pub returns-then-eat : goal.returns-then-eat
unfolding definitions_from
returns-then-eat c =
    let e = one_more (λ n. definitions_from n c.loop-turn.found c.loop-turn.tokens) _ c.loop-turn._turn c.loop-turn-test.true c.loop-turn.invariant in
    first_of (search rules, grind (arith, common_steps))

pub loop-turn-preserved : goal.loop-turn-preserved
unfolding definitions_from
loop-turn-preserved c =
    let e = one_more (λ n. definitions_from n c.loop-turn.found c.loop-turn.tokens) _ c.loop-turn._turn c.loop-turn-test.true c.loop-turn.invariant in
    first_of (search rules, grind (arith, common_steps))

pub returns : goal.returns
unfolding definitions_from
returns c =
    let e = no_more (λ n. definitions_from n c.loop-turn.found c.loop-turn.tokens) _ c.loop-turn._turn c.loop-turn-test.false c.loop-turn.invariant in
    first_of (search rules, grind (arith, common_steps))
