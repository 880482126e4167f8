use Rattle.std.proofs.Common.{◌≡◌, take}
use Rattle.im_versions.specs.Versions.{versions_from}
use Rattle.im_index.proofs.merging.versions_from.Given as goal

abbrev pub invariant-loop-i : goal.invariant-loop-i
invariant-loop-i l = l.versions.items ≡ versions_from l.k (take l.i l.txs)
