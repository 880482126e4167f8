use Rattle.std.proofs.Common.{arith, ◌∙◌}
use Rattle.im_levels.proofs.FreshLemmas.{size-fits}
use Rattle.im_levels.proofs.steps.nodes.Nodes.next_fits.Goals as goal

pub returns : goal.returns
returns c = size-fits c.args.size c.count.result (c.count.ensures ∙ c.requires) (omega arith)
