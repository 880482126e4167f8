use Rattle.im_mtree.proofs.SubtreeLemmas.{folded-pop, folded-all}
use Rattle.im_mtree.proofs.subtrees.fold.Goals as goal

pub loop-left-preserved : goal.loop-left-preserved
loop-left-preserved g c =
    folded-pop (g.H.Hash32.digest c.args.hash.now) c.loop-left.lefts.now c.in-Some.before.now c.in-Some.left.now c.loop-left.root c.node_digest-root.result _
    c.in-Some.ensures.cases.0 c.node_digest-root.ensures c.loop-left.invariant

pub returns : goal.returns
returns g c =
    folded-all (g.H.Hash32.digest c.args.hash.now) c.loop-left.lefts.now c.loop-left.root _ c.in_default.ensures.cases c.loop-left.invariant
