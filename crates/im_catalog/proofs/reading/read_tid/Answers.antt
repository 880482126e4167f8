use Rattle.std.proofs.Common.{◌<◌, length, refl, subst}
use Rattle.im_catalog.proofs.TableLemmas.{tid-none}
use Rattle.im_catalog.proofs.reading.read_tid.Goals as goal

pub returns-in-Err : goal.returns-in-Err
returns-in-Err c = tid-none c.args.text.now (subst (λ s. length s < 4) c.new-reader.ensures.left (c.in-Err.ensures.short.0 refl))
