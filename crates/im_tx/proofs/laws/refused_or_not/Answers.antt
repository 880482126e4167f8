use Rattle.im_tx.proofs.RefusalLemmas.{Refuses-apart}
use Rattle.im_tx.proofs.laws.refused_or_not.Goals as goal

pub returns : goal.returns
returns c = Refuses-apart
