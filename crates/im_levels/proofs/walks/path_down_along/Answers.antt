use Rattle.std.proofs.Common.{arith}
use Rattle.im_levels.proofs.ReadLemmas.{whole-fits}
use Rattle.im_levels.proofs.PartLemmas.{all-part}
use Rattle.im_levels.proofs.WalkLemmas.{paid-begins, paid-step, paid-now, gathers, gathered-none, path-ends}
use Rattle.im_levels.proofs.walks.path_down_along.Goals as goal

pub loop-part-init : goal.loop-part-init
loop-part-init g c = record {
  within = c.requires.leaf;
  part = all-part c.args.n;
  inside = omega arith;
  made = c.requires.made;
  path = λ leaves inside kept. gathered-none _ _ c.in_ok-terms.ensures.items;
  cost = λ b h. paid-begins c.args.steps.now b c.args.n h;
}

pub edge_root-term-requires-clause-inside : goal.edge_root-term-requires-clause-inside
edge_root-term-requires-clause-inside g c =
    whole-fits _ c.args.n _ (omega (arith, c.sides_of-sides.ensures.beside, c.loop-part.invariant.inside)) c.requires.inside

pub loop-part-preserved : goal.loop-part-preserved
loop-part-preserved g c =
    let sides = c.sides_of-sides.ensures in
    let all = c.loop-part.invariant.inside in
    record {
      within = sides.within;
      part = sides.inside_part;
      inside = omega (arith, sides.inside, all);
      made = c.edge_root-term.ensures.made;
      path = λ leaves inside kept. gathers c.loop-part.terms.items _ _ _ _ _ _ c.in_ok-push.ensures.items
          (c.edge_root-term.ensures.value leaves (omega (arith, sides.beside, all, inside)) kept)
          (sides.path (g.H.Hash32.digest c.args.hash.now) leaves (omega (arith, all, inside)))
          (c.loop-part.invariant.path leaves inside kept);
      cost = λ b h. paid-step _ _ _ b c.loop-part.part.width _ _ (c.loop-part.invariant.cost b h) sides.reach sides.digits c.edge_root-term.ensures.cost;
    }

pub returns-in_err-push-clause-cost : goal.returns-in_err-push-clause-cost
returns-in_err-push-clause-cost g c b h =
    let sides = c.sides_of-sides.ensures in
    paid-now _ _ b _ (paid-step _ _ _ b c.loop-part.part.width _ _ (c.loop-part.invariant.cost b h) sides.reach sides.digits c.edge_root-term.ensures.cost)

pub returns-clause-value : goal.returns-clause-value
returns-clause-value g c leaves inside kept =
    path-ends (g.H.Hash32.digest c.args.hash.now) leaves c.loop-part.terms.items _ c.loop-part.part.at c.loop-part.part.width c.loop-part.index c.loop-part-test.false
    (omega (arith, c.loop-part.invariant.inside, inside)) (c.loop-part.invariant.path leaves inside kept)

pub returns-clause-cost : goal.returns-clause-cost
returns-clause-cost g c b h = paid-now _ _ b _ (c.loop-part.invariant.cost b h)
