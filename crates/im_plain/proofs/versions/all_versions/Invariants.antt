use Rattle.std.proofs.Common.{◌≡◌, take}
use Rattle.im_versions.specs.Versions.{all_versions}
use Rattle.im_plain.proofs.versions.all_versions.Given as goal

abbrev pub invariant-loop-i : goal.invariant-loop-i
invariant-loop-i l = l.versions.items ≡ all_versions (take l.i l.history)
