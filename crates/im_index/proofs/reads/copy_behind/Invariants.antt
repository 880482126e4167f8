use Rattle.std.proofs.Common.{◌≡◌, ◌++◌, take}
use Rattle.im_index.proofs.reads.copy_behind.Given as goal

abbrev pub invariant-loop-shared : goal.invariant-loop-shared
invariant-loop-shared l = l.copies.items ≡ l.initial.copies.items ++ take l.shared-index l.versions
