use Rattle.std.proofs.Common.{All, take}
use Rattle.im_sqlsound.specs.Stepping.{AreMarked}
use Rattle.im_sqlsound.proofs.marked.are_all_marked.Given as goal

-- those of each so far are
abbrev pub invariant-loop-found : goal.invariant-loop-found
invariant-loop-found l = All (AreMarked l.changes) (take l.found-index l.tables)
