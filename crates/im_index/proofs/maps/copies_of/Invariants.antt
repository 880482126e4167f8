use Rattle.std.proofs.Common.{◌≡◌, map, take}
use Rattle.im_index.proofs.maps.copies_of.Given as goal

abbrev pub invariant-loop-version : goal.invariant-loop-version
invariant-loop-version l = l.copies.items ≡ map (λ v. v.now) (take l.version-index l.lent)
