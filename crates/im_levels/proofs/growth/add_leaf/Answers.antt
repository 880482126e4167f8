use Rattle.std.proofs.Common.{ℕ, List, length, take, refl, arith, ap, ◌∙◌}
use Rattle.std.proofs.lemmas.List.{take_at}
use Rattle.im_levels.proofs.FreshLemmas.{filled-more, leveled-more, fresh-bound}
use Rattle.im_levels.proofs.growth.add_leaf.Goals as goal

pub fresh_digests-fresh-requires-clause-inside : goal.fresh_digests-fresh-requires-clause-inside
fresh_digests-fresh-requires-clause-inside g c = omega (arith, c.requires)

pub fresh_digests-fresh-requires-clause-room : goal.fresh_digests-fresh-requires-clause-room
fresh_digests-fresh-requires-clause-room g c = c.next_fits.ensures

pub returns-clause-room : goal.returns-clause-room
returns-clause-room g c = c.next_fits.ensures

pub returns-clause-filled : goal.returns-clause-filled
returns-clause-filled g c =
    filled-more _ _ _ _ _ c.in_ok-add.ensures.ok c.as_slice-more.ensures.value c.requires c.fresh_digests-fresh.ensures.count

pub returns-clause-front : goal.returns-clause-front
returns-clause-front g c =
    let before : List (List ℕ) = c.args.digests.now in
    ap (λ (l : List (List ℕ)). take (length before) l) c.in_ok-add.ensures.ok ∙ take_at before c.as_slice-more.result.now (length before) refl

pub returns-clause-leaves : goal.returns-clause-leaves
returns-clause-leaves g c leaves f =
    leveled-more (g.H.Hash32.digest c.args.hash.now) leaves _ _ _ _ c.args.alh.now c.args.size c.in_ok-add.ensures.ok c.as_slice-more.ensures.value c.requires
    c.fresh_digests-fresh.ensures.count f
    (c.fresh_digests-fresh.ensures.leaves leaves f.counted f.rooted)

pub returns-clause-cost : goal.returns-clause-cost
returns-clause-cost g c = omega (arith, c.fresh_digests-fresh.ensures.cost, c.fresh_digests-fresh.ensures.count)

pub returns-clause-bound : goal.returns-clause-bound
returns-clause-bound g c b fits =
    omega (arith, c.fresh_digests-fresh.ensures.cost, fresh-bound _ _ b c.fresh_digests-fresh.ensures.most fits)

pub returns-in_err-add-clause-cost : goal.returns-in_err-add-clause-cost
returns-in_err-add-clause-cost g c = omega (arith, c.fresh_digests-fresh.ensures.cost, c.fresh_digests-fresh.ensures.count)

pub returns-in_err-add-clause-bound : goal.returns-in_err-add-clause-bound
returns-in_err-add-clause-bound g c b fits =
    omega (arith, c.fresh_digests-fresh.ensures.cost, fresh-bound _ _ b c.fresh_digests-fresh.ensures.most fits)
