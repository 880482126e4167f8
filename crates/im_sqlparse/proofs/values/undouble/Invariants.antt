use Rattle.std.proofs.Common.{◌≡◌, ◌++◌, length, false}
use Rattle.im_sqlparse.specs.Values.{undouble}
use Rattle.im_sqlparse.proofs.values.undouble.Given as goal

abbrev pub invariant-loop-text : goal.invariant-loop-text
invariant-loop-text l = l.plain ++ undouble l.is_second l.text ≡ undouble false l.initial.text

abbrev pub decreases-loop-text : goal.decreases-loop-text
decreases-loop-text l = length l.text
