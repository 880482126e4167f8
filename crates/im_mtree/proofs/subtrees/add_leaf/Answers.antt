use Rattle.std.proofs.Common.{◌≡◌, ◌%◌, ◌+◌, ◌-◌, ◌/◌, length, arith, ◌∙◌, subst}
use Rattle.im_model.proofs.Reversed.{reverse-last}
use Rattle.im_mtree.proofs.SubtreeLemmas.{carry-merged}
use Rattle.im_mtree.proofs.OnesLemmas.{IsHeight, height-begins, height-goes_on, height-ends}
use Rattle.im_mtree.proofs.GrowthLemmas.{growth-begins, growth-ends}
use Rattle.im_mtree.specs.Kept.{ones}
use Rattle.im_mtree.proofs.subtrees.add_leaf.Goals as goal

pub loop-count-init : goal.loop-count-init
loop-count-init g c = record {
  height = height-begins _ _ (omega arith) c.requires.height;
  leaves = λ leaves f. growth-begins _ leaves c.args.stack.now.items c.args.size c.args.digest.now _ (omega arith) f c.leaf_digest-root.ensures;
}

pub merge-root-requires : goal.merge-root-requires
merge-root-requires g c = (height-goes_on _ _ _ c.loop-count-test.true c.loop-count.invariant.height).0

pub loop-count-preserved : goal.loop-count-preserved
loop-count-preserved g c =
    let less : length c.loop-count.stack.items - 1 ≡ length c.merge-root.new.stack.items = omega (arith, c.merge-root.ensures.height) in record {
      height = subst (λ n. IsHeight (ones (c.args.size + 1)) n (c.loop-count.count / 2)) less
          (height-goes_on _ _ _ c.loop-count-test.true c.loop-count.invariant.height).1;
      leaves = λ leaves f. carry-merged _ _ _ _ _ _ _ _ c.loop-count-test.true (c.loop-count.invariant.leaves leaves f) c.merge-root.ensures.value c.merge-root.ensures.rest;
    }

pub push-requires : goal.push-requires
push-requires g c =
    let even : c.loop-count.count % 2 ≡ 0 = omega (arith, c.loop-count-test.false) in
    (omega arith, (height-ends _ _ _ even c.loop-count.invariant.height).0)

pub returns-clause-height : goal.returns-clause-height
returns-clause-height g c =
    let even : c.loop-count.count % 2 ≡ 0 = omega (arith, c.loop-count-test.false) in
    c.push.ensures.len ∙ (height-ends _ _ _ even c.loop-count.invariant.height).1

pub returns-clause-leaves : goal.returns-clause-leaves
returns-clause-leaves g c leaves f =
    let even : c.loop-count.count % 2 ≡ 0 = omega (arith, c.loop-count-test.false) in
    growth-ends _ leaves c.loop-count.stack.items c.push.new.self.items c.args.size _ _ _ f.counted even (c.loop-count.invariant.leaves leaves f)
    (reverse-last c.push.new.self.items c.loop-count.stack.items c.loop-count.root c.push.ensures.items)
