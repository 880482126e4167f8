use Rattle.std.proofs.Common.{◌≡◌, map}
use Rattle.im_draft.specs.Drafts.{entry_of}
use Rattle.im_tx.proofs.prepare.entries_of.Given as goal

abbrev pub invariant-loop-draft : goal.invariant-loop-draft
invariant-loop-draft l = l.entries.items ≡ map entry_of l.yielded
