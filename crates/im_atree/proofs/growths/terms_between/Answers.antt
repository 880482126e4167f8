use Rattle.std.proofs.Common.{◌≡◌, ◌+◌, ◌-◌, length, arith, ap, ◌∙◌}
use Rattle.im_mtree.proofs.UpLemmas.{length-sides, path-short}
use Rattle.im_atree.specs.Grows.{grow_sides}
use Rattle.im_atree.proofs.GrowLemmas.{length-behind}
use Rattle.im_atree.proofs.growths.terms_between.Goals as goal

pub overflow_add-result : goal.overflow_add-result
overflow_add-result c =
    let short = path-short (c.first_place-place.result.last + 1) c.first_place-place.result.index (omega arith) in
    omega (arith, short, c.terms_of.ensures, c.first_place-place.ensures.lower)

pub returns : goal.returns
returns c =
    let older : c.args.m - 1 + 1 ≡ c.args.m = omega arith in
    let newer : c.args.n - 1 + 1 ≡ c.args.n = omega arith in
    let place = ap length c.first_place-place.ensures.same
    ∙ ap (λ x. length (grow_sides x (c.args.n - 1 + 1))) older ∙ ap (λ x. length (grow_sides c.args.m x)) newer in
    let way = length-sides (c.first_place-place.result.last + 1) c.first_place-place.result.index in
    let long = length-behind c.args.m c.args.n c.requires.grows in
    omega (arith, place, way, long, c.terms_of.ensures)
