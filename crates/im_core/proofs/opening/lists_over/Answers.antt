use Rattle.std.proofs.Common.{◌∙◌, refl}
use Rattle.im_core.proofs.opening.lists_over.Goals as goal

pub returns-in-Ok : goal.returns-in-Ok
returns-in-Ok c = (c.of.ensures.0 ∙ c.in-Ok.ensures.transactions, c.of.ensures.1, c.of.ensures.2, refl, c.in-Ok.ensures.index)
