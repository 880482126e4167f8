use Rattle.im_sqlmodel.proofs.KeptLemmas.{nothing_kept}
use Rattle.im_sqlmodel.proofs.laws.nothing_is_kept.Goals as goal

pub returns : goal.returns
returns c = nothing_kept
