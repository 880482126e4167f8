use Rattle.std.proofs.Common.{◌<◌, length, refl, subst}
use Rattle.im_sqlsound.proofs.said.first_number.Goals as goal

pub returns-in-Err : goal.returns-in-Err
returns-in-Err c = subst (λ s. length s < 4) c.new-reader.ensures.left (c.in-Err.ensures.short.0 refl)
