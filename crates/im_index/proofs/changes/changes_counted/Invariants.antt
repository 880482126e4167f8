use Rattle.std.proofs.Common.{◌≡◌, take}
use Rattle.im_index.proofs.NewestLemmas.{looked_at}
use Rattle.im_index.proofs.changes.changes_counted.Given as goal

abbrev pub invariant-loop-run : goal.invariant-loop-run
invariant-loop-run g l = l.copies.items ≡ looked_at l.prefix l.n (take l.run-index l.runs)
