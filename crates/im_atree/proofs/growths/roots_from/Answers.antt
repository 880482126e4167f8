use Rattle.std.proofs.Common.{◌≡◌, ◌+◌, ◌-◌, length, arith, ap, ◌∙◌}
use Rattle.im_atree.specs.Grows.{grow_sides}
use Rattle.im_atree.proofs.GrowLemmas.{length-behind, both-walked}
use Rattle.im_atree.proofs.growths.roots_from.Goals as goal

pub climb_both-requires-clause-exact : goal.climb_both-requires-clause-exact
climb_both-requires-clause-exact g c =
    let older : c.args.m - 1 + 1 ≡ c.args.m = omega arith in
    let newer : c.args.n - 1 + 1 ≡ c.args.n = omega arith in
    let place = ap length c.first_place-place.ensures.same
    ∙ ap (λ x. length (grow_sides x (c.args.n - 1 + 1))) older ∙ ap (λ x. length (grow_sides c.args.m x)) newer in
    let long = length-behind c.args.m c.args.n c.requires.grows in
    omega (arith, place, long, c.requires.exact)

pub returns-clause-older : goal.returns-clause-older
returns-clause-older g c =
    let older : c.args.m - 1 + 1 ≡ c.args.m = omega arith in
    let newer : c.args.n - 1 + 1 ≡ c.args.n = omega arith in
    let place = c.first_place-place.ensures.same ∙ ap (λ x. grow_sides x (c.args.n - 1 + 1)) older ∙ ap (λ x. grow_sides c.args.m x) newer in
    ap (λ r. r.older) (both-walked (g.H.Hash32.digest c.args.hash.now) c.args.m c.args.n c.args.first.now c.args.others.now _ _ c.requires.some c.requires.grows c.requires.exact place c.climb_both.ensures)

pub returns-clause-newer : goal.returns-clause-newer
returns-clause-newer g c =
    let older : c.args.m - 1 + 1 ≡ c.args.m = omega arith in
    let newer : c.args.n - 1 + 1 ≡ c.args.n = omega arith in
    let place = c.first_place-place.ensures.same ∙ ap (λ x. grow_sides x (c.args.n - 1 + 1)) older ∙ ap (λ x. grow_sides c.args.m x) newer in
    ap (λ r. r.newer) (both-walked (g.H.Hash32.digest c.args.hash.now) c.args.m c.args.n c.args.first.now c.args.others.now _ _ c.requires.some c.requires.grows c.requires.exact place c.climb_both.ensures)
