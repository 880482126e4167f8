use Rattle.std.proofs.Common.{◌≡◌, take}
use Rattle.im_tx.proofs.copies.copy_of_entries.Given as goal

abbrev pub invariant-loop-entry : goal.invariant-loop-entry
invariant-loop-entry l = l.copies.items ≡ take l.entry-index l.entries
