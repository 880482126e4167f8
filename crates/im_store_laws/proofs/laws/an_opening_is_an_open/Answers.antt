use Rattle.im_store_laws.proofs.OpenEvents.{open_event}
use Rattle.im_store_laws.proofs.laws.an_opening_is_an_open.Goals as goal

pub returns : goal.returns
returns c = λ t faults n opens. open_event t faults n opens
