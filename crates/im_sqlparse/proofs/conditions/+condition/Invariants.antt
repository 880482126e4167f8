use Rattle.std.proofs.Common.{◌≡◌, ◌+◌, ◌-◌, ◌*◌}
use Rattle.im_sqlparse.specs.declared.kinds.Kind.TheVariants.{And, Or}
use Rattle.im_sqlparse.specs.declared.statements.Condition.TheVariants.{Any, All}
use Rattle.im_sqlparse.specs.Input.{separated_from, ◌<$>◌}
use Rattle.im_sqlparse.specs.Conditions.{conjunction, disjunction, factor}
use Rattle.im_sqlparse.proofs.conditions.+condition.Given as goal

abbrev pub decreases-factor : goal.decreases-factor
decreases-factor l = 8 * l.depth

abbrev pub decreases-conjunction : goal.decreases-conjunction
decreases-conjunction l = 8 * l.depth + 1

abbrev pub decreases-disjunction : goal.decreases-disjunction
decreases-disjunction l = 8 * l.depth + 2

abbrev pub decreases-negation : goal.decreases-negation
decreases-negation l = 8 * l.depth + 1

abbrev pub decreases-nested : goal.decreases-nested
decreases-nested l = 8 * l.depth + 3

abbrev pub decreases-deeper : goal.decreases-deeper
decreases-deeper l = 8 * l.depth + 4

abbrev pub invariant-conjunction-loop-turn : goal.invariant-conjunction-loop-turn
invariant-conjunction-loop-turn l =
    conjunction (factor l.rev l.depth) l.fn.tokens ≡ (All <$> separated_from And (factor l.rev l.depth) (l._turn-end - l._turn) l.found) l.tokens

abbrev pub invariant-disjunction-loop-turn : goal.invariant-disjunction-loop-turn
invariant-disjunction-loop-turn l =
    disjunction (factor l.rev l.depth) l.fn.tokens ≡ (Any <$> separated_from Or (conjunction (factor l.rev l.depth)) (l._turn-end - l._turn) l.found) l.tokens
