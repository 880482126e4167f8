use Rattle.std.proofs.Common.{◌≡◌, filter, map, not}
use Rattle.im_index.proofs.maps.live_of.Given as goal

abbrev pub invariant-loop-version : goal.invariant-loop-version
invariant-loop-version l = map (λ v. v.now) l.live.items ≡ filter (λ v. not v.deleted) (map (λ v. v.now.now) l.yielded)
