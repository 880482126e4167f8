use Rattle.std.proofs.Common.{◌≡◌, ◌-◌, ◌∷◌, [], map, take, drop, get_or}
use Rattle.im_model.specs.Headers.{inner, alh}
use Rattle.im_dual.proofs.build.linear_of.Given as goal

abbrev pub invariant-loop-i : goal.invariant-loop-i
invariant-loop-i g l =
    l.terms.items ≡ get_or (map (alh (g.H.Hash32.digest l.hash)) l.headers) (l.s - 1) []
    ∷ take (l.i - l.s) (drop l.s (map (inner (g.H.Hash32.digest l.hash)) l.headers))
