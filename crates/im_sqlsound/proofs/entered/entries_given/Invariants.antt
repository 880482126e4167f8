use Rattle.std.proofs.Common.{◌≡◌, flat_map, take}
use Rattle.im_sqlsound.specs.Sounding.{entries_of}
use Rattle.im_sqlsound.proofs.entered.entries_given.Given as goal

abbrev pub invariant-loop-found : goal.invariant-loop-found
invariant-loop-found l = l.entries.items ≡ flat_map entries_of (take l.found-index l.tables)
