use Rattle.std.proofs.Common.{◌≡◌, ◌++◌, take}
use Rattle.im_index.proofs.merging.share_behind.Given as goal

abbrev pub invariant-loop-version : goal.invariant-loop-version
invariant-loop-version l = l.versions.items ≡ l.initial.versions.items ++ take l.version-index l.run
