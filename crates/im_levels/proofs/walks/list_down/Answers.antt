use Rattle.im_levels.proofs.walks.list_down.Goals as goal

pub list_down_along-requires-clause-made : goal.list_down_along-requires-clause-made
list_down_along-requires-clause-made g c = c.no_edge-edge.ensures (g.H.Hash32.digest c.args.hash.now) c.args.digests.now
