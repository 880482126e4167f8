use Rattle.std.proofs.Common.{◌≡◌, ◌-◌}
use Rattle.im_sqlparse.specs.Statements.{definitions, definitions_from}
use Rattle.im_sqlparse.proofs.creations.definitions.Given as goal

abbrev pub invariant-loop-turn : goal.invariant-loop-turn
invariant-loop-turn l = definitions l.fn.tokens ≡ definitions_from (l._turn-end - l._turn) l.found l.tokens
