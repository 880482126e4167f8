use Rattle.std.proofs.Common.{refl}
use Rattle.im_core.proofs.opening.not_opened.Goals as goal

pub returns-in-Damaged : goal.returns-in-Damaged
returns-in-Damaged c = (refl, (c.in-Damaged.field-0, c.in-Damaged.is))
