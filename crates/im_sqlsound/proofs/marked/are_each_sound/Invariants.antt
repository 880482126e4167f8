use Rattle.std.proofs.Common.{All, take}
use Rattle.im_sqlsound.specs.Sounding.{IsSoundAlone}
use Rattle.im_sqlsound.proofs.marked.are_each_sound.Given as goal

-- each so far does
abbrev pub invariant-loop-found : goal.invariant-loop-found
invariant-loop-found l = All (IsSoundAlone l.changes) (take l.found-index l.tables)
