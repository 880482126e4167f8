use Rattle.std.proofs.Common.{◌<◌, ℕ, get_or}
use Rattle.im_versions.specs.Versions.{IsBelow}
use Rattle.im_versions.specs.declared.versions.Version.{Version}
use Rattle.im_plain.proofs.versions.place_of.Given as goal

abbrev pub invariant-loop-i : goal.invariant-loop-i
invariant-loop-i l = (k : ℕ) (d : Version) → k < l.i → IsBelow (get_or l.shown k d).key l.key
