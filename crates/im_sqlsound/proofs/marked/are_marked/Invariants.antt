use Rattle.std.proofs.Common.{All, take}
use Rattle.im_sqlsound.specs.Sounding.{IsMarked}
use Rattle.im_sqlsound.proofs.marked.are_marked.Given as goal

-- each so far is
abbrev pub invariant-loop-row : goal.invariant-loop-row
invariant-loop-row l = All (IsMarked l.changes l.found.table) (take l.row-index l.rows)
