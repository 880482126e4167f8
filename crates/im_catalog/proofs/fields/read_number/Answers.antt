use Rattle.std.proofs.Common.{◌<◌, length, refl, subst}
use Rattle.im_catalog.proofs.PartLemmas.{number-none}
use Rattle.im_catalog.proofs.fields.read_number.Goals as goal

pub returns-in-Err : goal.returns-in-Err
returns-in-Err c = number-none c.args.text.now (subst (λ s. length s < 2) c.new-reader.ensures.left (c.in-Err.ensures.short.0 refl))
