use Rattle.std.proofs.Common.{◌≡◌, take}
use Rattle.im_tx.proofs.copies.copy_of_pres.Given as goal

abbrev pub invariant-loop-pre : goal.invariant-loop-pre
invariant-loop-pre l = l.copies.items ≡ take l.pre-index l.pres
