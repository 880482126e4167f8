use Rattle.std.proofs.Common.{All, take}
use Rattle.im_sqlsound.specs.Sounding.{IsMarkShown}
use Rattle.im_sqlsound.proofs.marked.are_marks.Given as goal

abbrev pub invariant-loop-mark : goal.invariant-loop-mark
invariant-loop-mark l = All (IsMarkShown l.tables) (take l.mark-index l.marks)
