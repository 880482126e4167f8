use Rattle.std.proofs.Common.{take}
use Rattle.im_index.specs.Newest.{HasNewest}
use Rattle.im_plain.proofs.reads.newest.Given as goal

abbrev pub invariant-loop-version : goal.invariant-loop-version
invariant-loop-version l = HasNewest (take l.version-index l.versions) l.prefix l.newest
