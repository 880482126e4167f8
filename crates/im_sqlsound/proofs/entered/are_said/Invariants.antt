use Rattle.std.proofs.Common.{◌≡◌, map, take}
use Rattle.im_sqlsound.specs.Sounding.{said_by}
use Rattle.im_sqlsound.proofs.entered.are_said.Given as goal

-- those so far are
abbrev pub invariant-loop-at : goal.invariant-loop-at
invariant-loop-at l = map said_by (take l.at l.shown) ≡ take l.at l.entries
