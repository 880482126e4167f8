use Rattle.std.proofs.Common.{◌≡◌, take}
use Rattle.im_versions.specs.Versions.{versions_in}
use Rattle.im_plain.proofs.entries.versions_in.Given as goal

abbrev pub invariant-loop-entry : goal.invariant-loop-entry
invariant-loop-entry l = l.versions.items ≡ versions_in l.k (take l.entry-index l.entries)
