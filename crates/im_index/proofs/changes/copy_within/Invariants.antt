use Rattle.std.proofs.Common.{◌≡◌, ◌++◌, take}
use Rattle.std.specs.List.{filter}
use Rattle.im_index.proofs.NewestLemmas.{is_within}
use Rattle.im_index.proofs.changes.copy_within.Given as goal

abbrev pub invariant-loop-shared : goal.invariant-loop-shared
invariant-loop-shared l = l.copies.items ≡ l.initial.copies.items ++ filter (is_within l.n) (take l.shared-index l.versions)
