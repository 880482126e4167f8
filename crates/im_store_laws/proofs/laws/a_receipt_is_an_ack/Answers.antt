use Rattle.im_store_laws.proofs.EventLemmas.{ack_event}
use Rattle.im_store_laws.proofs.laws.a_receipt_is_an_ack.Goals as goal

pub returns : goal.returns
returns c = λ hash history n some within. ack_event hash history n some within
