use Rattle.std.proofs.Common.{take}
use Rattle.im_sqlsound.specs.Sounding.{AreGapless}
use Rattle.im_sqlsound.proofs.numbered.are_gapless.Given as goal

abbrev pub invariant-loop-at : goal.invariant-loop-at
invariant-loop-at l = AreGapless (take l.at l.indexes)
