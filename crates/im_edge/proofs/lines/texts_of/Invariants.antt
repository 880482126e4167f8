use Rattle.std.proofs.Common.{ℕ, List, length, ◌++◌}
use Rattle.im_text.specs.Lines.{AreTexts}
use Rattle.im_edge.proofs.lines.texts_of.Given as goal

abbrev pub invariant-loop-rest : goal.invariant-loop-rest
invariant-loop-rest l = (tail : List (List ℕ)) → AreTexts l.rest tail → AreTexts l.octets (l.texts.items ++ tail)

abbrev pub decreases-loop-rest : goal.decreases-loop-rest
decreases-loop-rest l = length l.rest
