use Rattle.std.proofs.Common.{◌≡◌, take, filter}
use Rattle.im_versions.specs.Versions.{is_of}
use Rattle.im_plain.proofs.reads.of_key.Given as goal

abbrev pub invariant-loop-version : goal.invariant-loop-version
invariant-loop-version l = l.copies.items ≡ filter (is_of l.key) (take l.version-index l.versions)
