use Rattle.std.proofs.Common.{All, take}
use Rattle.std.specs.List.{IsAmong}
use Rattle.im_sqlsound.proofs.settled.are_settled.Given as goal

abbrev pub invariant-loop-version : goal.invariant-loop-version
invariant-loop-version l = All (IsAmong l.shown) (take l.version-index l.before)
