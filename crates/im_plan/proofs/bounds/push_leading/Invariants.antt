use Rattle.std.proofs.Common.{◌≡◌, ◌++◌, drop}
use Rattle.im_sqltype.specs.Texts.{row_text}
use Rattle.im_plan.specs.Bounds.{leading}
use Rattle.im_plan.proofs.bounds.push_leading.Given as goal

-- what was written, and what those ahead will write, is what all write
abbrev pub invariant-loop-number : goal.invariant-loop-number
invariant-loop-number l =
    l.out ++ row_text (leading l.conjuncts l.table (drop l.number-index l.numbers)) ≡ l.initial.out ++ row_text (leading l.conjuncts l.table l.numbers)
