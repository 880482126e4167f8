use Rattle.std.proofs.Common.{◌≡◌, take}
use Rattle.im_versions.specs.Versions.{last_version}
use Rattle.im_book.proofs.last.last_of.Given as goal

abbrev pub invariant-loop-k : goal.invariant-loop-k
invariant-loop-k l = last_version l.history l.key ≡ last_version (take l.k l.history) l.key
