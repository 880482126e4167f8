use Rattle.std.proofs.Common.{take, reverse}
use Rattle.im_disk.specs.Records.{files_of, AreWithin}
use Rattle.im_image.proofs.within.are_within.Given as goal

abbrev pub invariant-loop-n : goal.invariant-loop-n
invariant-loop-n l = AreWithin (files_of l.first) (reverse (take l.n l.calls))
