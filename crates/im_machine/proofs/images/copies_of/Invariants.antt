use Rattle.std.proofs.Common.{◌≡◌, take}
use Rattle.im_machine.proofs.images.copies_of.Given as goal

abbrev pub invariant-loop-file : goal.invariant-loop-file
invariant-loop-file l = l.copies.items ≡ take l.file-index l.files
