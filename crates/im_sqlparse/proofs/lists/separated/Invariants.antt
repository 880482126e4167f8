use Rattle.std.proofs.Common.{◌≡◌, ◌-◌}
use Rattle.im_sqlparse.specs.declared.kinds.Kind.TheVariants.{Comma}
use Rattle.im_sqlparse.specs.Input.{separated, separated_from}
use Rattle.im_sqlparse.proofs.lists.separated.Given as goal

abbrev pub invariant-loop-turn : goal.invariant-loop-turn
invariant-loop-turn g l = separated Comma (g.T.Listed.rule l.rev) l.fn.tokens ≡ separated_from Comma (g.T.Listed.rule l.rev) (l._turn-end - l._turn) l.found l.tokens
