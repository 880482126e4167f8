use Rattle.im_dual.proofs.KeptLemmas.{assembled}
use Rattle.im_dual.proofs.build.assemble.Goals as goal

pub inclusion_of-requires-clause-made : goal.inclusion_of-requires-clause-made
inclusion_of-requires-clause-made g c = c.no_edge-edge.ensures (g.H.Hash32.digest c.args.hash.now) c.args.tree.now.digests

pub consistency_of-requires-clause-made : goal.consistency_of-requires-clause-made
consistency_of-requires-clause-made g c = c.in_ok-inclusion.ensures.made

pub advance-requires-clause-made : goal.advance-requires-clause-made
advance-requires-clause-made g c = c.in_ok-consistency.ensures.made

pub returns : goal.returns
returns g c =
    let r = c.requires in
    assembled (g.H.Hash32.digest c.args.hash.now) c.args.headers.now c.args.tree.now.size c.args.s c.args.t c.args.size c.max.result c.min.result _ c.max.ensures c.min.ensures r.source r.target r.size r.tree
    c.in_ok-source.ensures c.in_ok-target.ensures (c.in_ok-inclusion.ensures.value _ r.leaves) (c.in_ok-consistency.ensures.value _ r.leaves) c.last_of.ensures
    (c.in_ok-last_inclusion.ensures _ r.leaves) c.in_ok-linear.ensures c.in_ok-linear_advance.ensures
