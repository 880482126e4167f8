use Rattle.im_levels.proofs.walks.path_down.Goals as goal

pub path_down_along-requires-clause-made : goal.path_down_along-requires-clause-made
path_down_along-requires-clause-made g c = c.no_edge-edge.ensures (g.H.Hash32.digest c.args.hash.now) c.args.digests.now
