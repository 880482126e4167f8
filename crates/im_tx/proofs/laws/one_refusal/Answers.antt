use Rattle.im_tx.proofs.RefusalLemmas.{Refuses-unique}
use Rattle.im_tx.proofs.laws.one_refusal.Goals as goal

pub returns : goal.returns
returns c = Refuses-unique
