use Rattle.std.proofs.Common.{◌≡◌, map, take}
use Rattle.im_model.specs.Entries.{entry_digest}
use Rattle.im_entry.proofs.digests.digests_of.Given as goal

abbrev pub invariant-loop-entry : goal.invariant-loop-entry
invariant-loop-entry g l = l.digests.items ≡ map (entry_digest (g.H.Hash32.digest l.hash)) (take l.entry-index l.entries)
