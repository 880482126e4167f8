use Rattle.std.proofs.Common.{◌≡◌, ◌+◌, length, false}
use Rattle.im_sqlparse.specs.Lex.{closing}
use Rattle.im_sqlparse.proofs.lex.closing.Given as goal

abbrev pub invariant-loop-text : goal.invariant-loop-text
invariant-loop-text l = (closing l.is_second l.at l.text ≡ closing false 1 l.initial.text) × (l.at + length l.text ≡ length l.initial.text + 1)

abbrev pub decreases-loop-text : goal.decreases-loop-text
decreases-loop-text l = length l.text
