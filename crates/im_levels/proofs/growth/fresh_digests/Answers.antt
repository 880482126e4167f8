use Rattle.std.proofs.Common.{◌≡◌, ◌≤◌, ◌-◌, ◌*◌, ◌/◌, ◌%◌, length, arith, ap, subst, sym}
use Rattle.im_levels.proofs.ReadLemmas.{whole-fits}
use Rattle.im_levels.proofs.FreshLemmas.{IsGrowing, growing-begins, growing-odd, growing-tree, growing-step, growing-few, growing-count, growing-most, fresh-more, made-begins, made-step}
use Rattle.im_levels.proofs.growth.fresh_digests.Goals as goal

pub loop-count-init : goal.loop-count-init
loop-count-init g c =
    let none : length c.new-fresh.result.items ≡ 0 = ap (λ l. length l) c.new-fresh.ensures in
    record {
      place = growing-begins c.args.size _ none;
      cost = omega (arith, none, c.leaf_step-digest.ensures.cost);
      leaves = λ leaves same kept. made-begins (g.H.Hash32.digest c.args.hash.now) leaves c.args.alh.now c.args.size _ _ same c.new-fresh.ensures c.leaf_step-digest.ensures.value;
    }

pub push-requires : goal.push-requires
push-requires g c = (omega arith, growing-few _ _ _ _ _ c.requires.room c.loop-count.invariant.place)

pub push-requires-2 : goal.push-requires-2
push-requires-2 g c = (omega arith, growing-few _ _ _ _ _ c.requires.room c.loop-count.invariant.place)

pub overflow_sub-at : goal.overflow_sub-at
overflow_sub-at g c = (growing-odd _ _ _ _ _ c.loop-count-test.true c.loop-count.invariant.place).0

pub overflow_mul-width : goal.overflow_mul-width
overflow_mul-width g c =
    let odd = growing-odd c.args.size c.loop-count.count c.loop-count.at c.loop-count.width _ c.loop-count-test.true c.loop-count.invariant.place in
    omega (arith, odd.0, odd.2, c.loop-count.invariant.place.ends, c.requires.room)

pub read-left-requires-clause-aligned : goal.read-left-requires-clause-aligned
read-left-requires-clause-aligned g c = growing-tree _ _ _ _ _ c.loop-count-test.true c.loop-count.invariant.place

pub read-left-requires-clause-inside : goal.read-left-requires-clause-inside
read-left-requires-clause-inside g c =
    let odd = growing-odd c.args.size c.loop-count.count c.loop-count.at c.loop-count.width _ c.loop-count-test.true c.loop-count.invariant.place in
    whole-fits _ c.args.size _ (omega (arith, odd.0, odd.2)) c.requires.inside

pub loop-count-preserved : goal.loop-count-preserved
loop-count-preserved g c =
    let odd = growing-odd c.args.size c.loop-count.count c.loop-count.at c.loop-count.width _ c.loop-count-test.true c.loop-count.invariant.place in
    let high : c.loop-count.at ≤ c.args.size = odd.2 in
    let low : c.loop-count.width ≤ c.loop-count.at = odd.0 in
    record {
      place = subst (λ n. IsGrowing c.args.size (c.loop-count.count / 2) (c.loop-count.at - c.loop-count.width) (2 * c.loop-count.width) n) (sym c.push.ensures.len)
          (growing-step _ _ _ _ _ c.loop-count-test.true c.loop-count.invariant.place);
      cost = omega (arith, c.push.ensures.len, c.loop-count.invariant.cost, c.read-left.ensures.cost, c.node_step-digest.ensures.cost);
      leaves = λ leaves same kept. made-step (g.H.Hash32.digest c.args.hash.now) leaves c.args.alh.now c.args.size c.loop-count.count c.loop-count.at c.loop-count.width _ _ _ _ _ same
          c.loop-count-test.true c.loop-count.invariant.place (c.loop-count.invariant.leaves leaves same kept) c.push.ensures.items
          (c.read-left.ensures.value (g.H.Hash32.digest c.args.hash.now) leaves (omega (arith, high, low, same)) kept) c.node_step-digest.ensures.value;
    }

pub returns-clause-count : goal.returns-clause-count
returns-clause-count g c =
    let even : c.loop-count.count % 2 ≡ 0 = omega (arith, c.loop-count-test.false) in
    omega (arith, c.push-2.ensures.len, growing-count c.args.size c.loop-count.count c.loop-count.at c.loop-count.width _ even c.loop-count.invariant.place)

pub returns-clause-most : goal.returns-clause-most
returns-clause-most g c = growing-most c.args.size c.loop-count.count c.loop-count.at c.loop-count.width _ _ c.push-2.ensures.len c.loop-count.invariant.place

pub returns-clause-cost : goal.returns-clause-cost
returns-clause-cost g c = omega (arith, c.push-2.ensures.len, c.loop-count.invariant.cost)

pub returns-clause-leaves : goal.returns-clause-leaves
returns-clause-leaves g c leaves same kept =
    let made = c.loop-count.invariant.leaves leaves same kept in
    fresh-more _ _ _ _ _ _ _ _ _ c.loop-count.invariant.place made.before made.here c.push-2.ensures.items
