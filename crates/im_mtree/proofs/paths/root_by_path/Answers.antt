use Rattle.std.proofs.Common.{◌≡◌, ◌+◌, length, ◌-◌, arith, ap, sym, ◌∙◌}
use Rattle.im_mtree.specs.Ways.{sides, rise, meet}
use Rattle.im_mtree.proofs.UpLemmas.{length-sides, up-is_rise}
use Rattle.im_mtree.proofs.paths.root_by_path.Goals as goal

pub climb-requires-clause-exact : goal.climb-requires-clause-exact
climb-requires-clause-exact g c =
    let all : c.args.width ≡ c.args.width - 1 + 1 = omega arith in
    c.requires.exact ∙ sym (length-sides c.args.width c.args.i) ∙ ap (λ n. length (sides n c.args.i)) all

pub returns : goal.returns
returns g c =
    let all : c.args.width - 1 + 1 ≡ c.args.width = omega arith in
    c.climb.ensures
    ∙ ap (λ n. rise (meet (g.H.Hash32.digest c.args.hash.now)) (sides n c.args.i) c.leaf_digest.result c.args.path.now) all
    ∙ ap (λ x. rise (meet (g.H.Hash32.digest c.args.hash.now)) (sides c.args.width c.args.i) x c.args.path.now) c.leaf_digest.ensures
    ∙ sym (up-is_rise (g.H.Hash32.digest c.args.hash.now) c.args.width c.args.i c.args.digest.now c.args.path.now c.requires.exact)
