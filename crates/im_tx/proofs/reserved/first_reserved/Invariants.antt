use Rattle.std.proofs.Common.{take}
use Rattle.im_draft.specs.Drafts.{AreFree}
use Rattle.im_tx.proofs.reserved.first_reserved.Given as goal

abbrev pub invariant-loop-i : goal.invariant-loop-i
invariant-loop-i l = AreFree (take l.i l.drafts)
