use Rattle.std.proofs.Common.{◌≡◌, take}
use Rattle.im_versions.specs.Versions.{versions_from}
use Rattle.im_index.specs.Keys.{bare}
use Rattle.im_index.proofs.keys.keys_from.Given as goal

abbrev pub invariant-loop-i : goal.invariant-loop-i
invariant-loop-i l = l.versions.items ≡ versions_from l.k (bare (take l.i l.txs))
