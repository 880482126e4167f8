use Rattle.std.proofs.Common.{◌≡◌, ◌<◌, ◌+◌, ◌-◌, arith, ap, sym, ◌∙◌, take}
use Rattle.im_proof.specs.Built.{growth_first, growth_rest}
use Rattle.im_levels.proofs.ReadLemmas.{whole-fits}
use Rattle.im_levels.proofs.PartLemmas.{all-part}
use Rattle.im_levels.proofs.WalkLemmas.{paid-begins, paid-step, paid-now, paid-last, gathers, gathered-none, list-ends}
use Rattle.im_levels.proofs.walks.list_down_along.Goals as goal

pub loop-index-init : goal.loop-index-init
loop-index-init g c =
    let older : c.args.m - 1 + 1 ≡ c.args.m = omega (arith, c.requires.some) in
    record {
      within = omega (arith, c.requires.some, c.requires.grows);
      part = all-part c.args.n;
      inside = omega arith;
      made = c.requires.made;
      first = λ leaves inside. ap (λ m. growth_first (g.H.Hash32.digest c.args.hash.now) (take c.args.n leaves) m) older;
      rest = λ leaves inside kept. gathered-none _ _ c.in_ok-terms.ensures.items ∙ ap (λ m. growth_rest (g.H.Hash32.digest c.args.hash.now) (take c.args.n leaves) m) older;
      cost = λ b h. paid-begins c.args.steps.now b c.args.n h;
    }

pub edge_root-term-requires-clause-inside : goal.edge_root-term-requires-clause-inside
edge_root-term-requires-clause-inside g c =
    whole-fits _ c.args.n _ (omega (arith, c.sides_of-sides.ensures.beside, c.loop-index.invariant.inside)) c.requires.inside

pub edge_root-first-requires-clause-inside : goal.edge_root-first-requires-clause-inside
edge_root-first-requires-clause-inside g c = whole-fits _ c.args.n _ c.loop-index.invariant.inside c.requires.inside

pub loop-index-preserved : goal.loop-index-preserved
loop-index-preserved g c =
    let sides = c.sides_of-sides.ensures in
    let all = c.loop-index.invariant.inside in
    let grows : c.loop-index.index + 1 < c.loop-index.part.width = omega (arith, c.loop-index-test.true) in
    record {
      within = sides.within;
      part = sides.inside_part;
      inside = omega (arith, sides.inside, all);
      made = c.edge_root-term.ensures.made;
      first = λ leaves inside. sym (sides.first (g.H.Hash32.digest c.args.hash.now) leaves (omega (arith, all, inside)) grows) ∙ c.loop-index.invariant.first leaves inside;
      rest = λ leaves inside kept. gathers c.loop-index.terms.items _ _ _ _ _ _ c.in_ok-push.ensures.items
          (c.edge_root-term.ensures.value leaves (omega (arith, sides.beside, all, inside)) kept)
          (sides.rest (g.H.Hash32.digest c.args.hash.now) leaves (omega (arith, all, inside)) grows)
          (c.loop-index.invariant.rest leaves inside kept);
      cost = λ b h. paid-step _ _ _ b c.loop-index.part.width _ _ (c.loop-index.invariant.cost b h) sides.reach sides.digits c.edge_root-term.ensures.cost;
    }

pub returns-in_err-push-clause-cost : goal.returns-in_err-push-clause-cost
returns-in_err-push-clause-cost g c b h =
    let sides = c.sides_of-sides.ensures in
    paid-now _ _ b _ (paid-step _ _ _ b c.loop-index.part.width _ _ (c.loop-index.invariant.cost b h) sides.reach sides.digits c.edge_root-term.ensures.cost)

pub returns-in_err-push-2-clause-cost : goal.returns-in_err-push-2-clause-cost
returns-in_err-push-2-clause-cost g c b h =
    paid-last _ _ _ b c.loop-index.part.width (c.loop-index.invariant.cost b h) c.edge_root-first.ensures.cost

pub returns-clause-value : goal.returns-clause-value
returns-clause-value g c leaves inside kept =
    let ends : c.loop-index.index + 1 ≡ c.loop-index.part.width = omega (arith, c.loop-index-test.false, c.loop-index.invariant.within) in
    let all = c.loop-index.invariant.inside in
    list-ends (g.H.Hash32.digest c.args.hash.now) leaves (take c.args.n leaves) c.loop-index.terms.items _ _ c.args.m c.loop-index.part.at c.loop-index.part.width c.loop-index.index
    ends (omega (arith, all, inside)) (c.loop-index.invariant.first leaves inside) (c.loop-index.invariant.rest leaves inside kept) c.in_ok-push-2.ensures.items
    (c.edge_root-first.ensures.value leaves (omega (arith, all, inside)) kept)

pub returns-clause-cost : goal.returns-clause-cost
returns-clause-cost g c b h =
    paid-last _ _ _ b c.loop-index.part.width (c.loop-index.invariant.cost b h) c.edge_root-first.ensures.cost
