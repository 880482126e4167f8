use Rattle.std.proofs.Common.{rules, arith, ◌≡◌, true, false}
use Rattle.std.proofs.lemmas.Grind.{common_steps}
use Rattle.im_sqlparse.specs.declared.kinds.Kind.TheVariants.{And, Or}
use Rattle.im_sqlparse.specs.declared.statements.Condition.{the_lemmas}
use Rattle.im_sqlparse.specs.declared.statements.Condition.TheVariants.{Any, All}
use Rattle.im_sqlparse.specs.Input.{kind, separated_from, ◌<$>◌}
use Rattle.im_sqlparse.specs.Conditions.{conjunction, disjunction, negation, nested, deeper, factor, opens}
use Rattle.im_sqlparse.proofs.Depth.{level, at_bottom, one_deeper}
use Rattle.im_sqlparse.proofs.Turns.{one_more, no_more}
use Rattle.im_sqlparse.proofs.conditions.+condition.Goals as goal

pub conjunction-loop-turn-init : goal.conjunction-loop-turn-init
unfolding conjunction
conjunction-loop-turn-init t c = first_of (search rules, grind (arith, common_steps), search (rules, the_lemmas), grind (arith, the_lemmas))

pub conjunction-returns-in_err-factor : goal.conjunction-returns-in_err-factor
unfolding separated_from
conjunction-returns-in_err-factor t c =
    let e = one_more (λ n. (All <$> separated_from And (factor c.args.rev c.args.depth) n c.loop-turn.found) c.loop-turn.tokens) _ c.loop-turn._turn c.loop-turn-test.true c.loop-turn.invariant in
    first_of (search rules, grind (arith, common_steps), search (rules, the_lemmas), grind (arith, the_lemmas))

pub conjunction-returns-then-not-eat : goal.conjunction-returns-then-not-eat
unfolding separated_from
conjunction-returns-then-not-eat t c =
    let e = one_more (λ n. (All <$> separated_from And (factor c.args.rev c.args.depth) n c.loop-turn.found) c.loop-turn.tokens) _ c.loop-turn._turn c.loop-turn-test.true c.loop-turn.invariant in
    first_of (search rules, grind (arith, common_steps), search (rules, the_lemmas), grind (arith, the_lemmas))

pub conjunction-loop-turn-preserved : goal.conjunction-loop-turn-preserved
unfolding separated_from
conjunction-loop-turn-preserved t c =
    let e = one_more (λ n. (All <$> separated_from And (factor c.args.rev c.args.depth) n c.loop-turn.found) c.loop-turn.tokens) _ c.loop-turn._turn c.loop-turn-test.true c.loop-turn.invariant in
    first_of (search rules, grind (arith, common_steps), search (rules, the_lemmas), grind (arith, the_lemmas))

pub conjunction-returns : goal.conjunction-returns
unfolding separated_from
conjunction-returns t c =
    let e = no_more (λ n. (All <$> separated_from And (factor c.args.rev c.args.depth) n c.loop-turn.found) c.loop-turn.tokens) _ c.loop-turn._turn c.loop-turn-test.false c.loop-turn.invariant in
    first_of (search rules, grind (arith, common_steps), search (rules, the_lemmas), grind (arith, the_lemmas))

pub disjunction-loop-turn-init : goal.disjunction-loop-turn-init
unfolding disjunction
disjunction-loop-turn-init t c = first_of (search rules, grind (arith, common_steps), search (rules, the_lemmas), grind (arith, the_lemmas))

pub disjunction-returns-in_err-conjunction : goal.disjunction-returns-in_err-conjunction
unfolding separated_from
disjunction-returns-in_err-conjunction t c =
    let e = one_more (λ n. (Any <$> separated_from Or (conjunction (factor c.args.rev c.args.depth)) n c.loop-turn.found) c.loop-turn.tokens) _ c.loop-turn._turn c.loop-turn-test.true c.loop-turn.invariant in
    first_of (search rules, grind (arith, common_steps), search (rules, the_lemmas), grind (arith, the_lemmas))

pub disjunction-returns-then-not-eat : goal.disjunction-returns-then-not-eat
unfolding separated_from
disjunction-returns-then-not-eat t c =
    let e = one_more (λ n. (Any <$> separated_from Or (conjunction (factor c.args.rev c.args.depth)) n c.loop-turn.found) c.loop-turn.tokens) _ c.loop-turn._turn c.loop-turn-test.true c.loop-turn.invariant in
    first_of (search rules, grind (arith, common_steps), search (rules, the_lemmas), grind (arith, the_lemmas))

pub disjunction-loop-turn-preserved : goal.disjunction-loop-turn-preserved
unfolding separated_from
disjunction-loop-turn-preserved t c =
    let e = one_more (λ n. (Any <$> separated_from Or (conjunction (factor c.args.rev c.args.depth)) n c.loop-turn.found) c.loop-turn.tokens) _ c.loop-turn._turn c.loop-turn-test.true c.loop-turn.invariant in
    first_of (search rules, grind (arith, common_steps), search (rules, the_lemmas), grind (arith, the_lemmas))

pub disjunction-returns : goal.disjunction-returns
unfolding separated_from
disjunction-returns t c =
    let e = no_more (λ n. (Any <$> separated_from Or (conjunction (factor c.args.rev c.args.depth)) n c.loop-turn.found) c.loop-turn.tokens) _ c.loop-turn._turn c.loop-turn-test.false c.loop-turn.invariant in
    first_of (search rules, grind (arith, common_steps), search (rules, the_lemmas), grind (arith, the_lemmas))

pub negation-returns-in_err-inner : goal.negation-returns-in_err-inner
unfolding negation
negation-returns-in_err-inner t c = first_of (search rules, grind (arith, common_steps), search (rules, the_lemmas), grind (arith, the_lemmas))

pub negation-returns : goal.negation-returns
unfolding negation
negation-returns t c = first_of (search rules, grind (arith, common_steps), search (rules, the_lemmas), grind (arith, the_lemmas))

pub nested-returns-in_err-found : goal.nested-returns-in_err-found
unfolding nested
nested-returns-in_err-found t c = first_of (search rules, grind (arith, common_steps), search (rules, the_lemmas), grind (arith, the_lemmas))

pub nested-returns-in-Err : goal.nested-returns-in-Err
unfolding nested
nested-returns-in-Err t c = first_of (search rules, grind (arith, common_steps), search (rules, the_lemmas), grind (arith, the_lemmas))

pub nested-returns-in-Ok : goal.nested-returns-in-Ok
unfolding nested
nested-returns-in-Ok t c = first_of (search rules, grind (arith, common_steps), search (rules, the_lemmas), grind (arith, the_lemmas))

pub deeper-returns-then-eat : goal.deeper-returns-then-eat
unfolding deeper
deeper-returns-then-eat t c = first_of (search rules, grind (arith, common_steps), search (rules, the_lemmas), grind (arith, the_lemmas))

pub deeper-returns : goal.deeper-returns
unfolding deeper
deeper-returns t c = first_of (search rules, grind (arith, common_steps), search (rules, the_lemmas), grind (arith, the_lemmas))

pub factor-returns-then-not-opens : goal.factor-returns-then-not-opens
factor-returns-then-not-opens t c =
    let o : opens (kind c.args.tokens.now) ≡ false = first_of (cc, grind arith) in
    rw (level c.args.rev c.args.depth c.args.tokens.now o) c.comparison.ensures

pub factor-returns-then-depth-eq0 : goal.factor-returns-then-depth-eq0
factor-returns-then-depth-eq0 t c =
    let o : opens (kind c.args.tokens.now) ≡ true = first_of (cc, grind arith) in
    let none : c.args.depth ≡ 0 = omega arith in
    let e = at_bottom c.args.rev c.args.depth c.args.tokens.now none o in
    first_of (search rules, grind (arith, common_steps))

pub factor-returns : goal.factor-returns
factor-returns t c =
    let o : opens (kind c.args.tokens.now) ≡ true = first_of (cc, grind arith) in
    rw (one_deeper c.args.rev c.args.depth c.args.tokens.now (omega arith) o) c.deeper.ensures
