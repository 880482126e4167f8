use Rattle.im_store_laws.proofs.EventLemmas.{snap_event}
use Rattle.im_store_laws.proofs.laws.a_read_is_a_snap.Goals as goal

pub returns : goal.returns
returns c = λ hash history n question versions. snap_event hash history n question versions
