use Rattle.std.proofs.Common.{take}
use Rattle.std.specs.Prelude.{All}
use Rattle.im_draft.specs.Drafts.{IsFine}
use Rattle.im_tx.proofs.lengths.check_each.Given as goal

abbrev pub invariant-loop-i : goal.invariant-loop-i
invariant-loop-i l = All IsFine (take l.i l.drafts)
