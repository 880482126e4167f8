use Rattle.std.proofs.Common.{take, length}
use Rattle.im_sqlsound.specs.Sounding.{AreUpTo}
use Rattle.im_sqlsound.proofs.numbered.are_told.Given as goal

-- those so far are
abbrev pub invariant-loop-at : goal.invariant-loop-at
invariant-loop-at l = AreUpTo (length l.tables) (take l.at l.tables)
