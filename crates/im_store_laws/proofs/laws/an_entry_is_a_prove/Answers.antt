use Rattle.im_store_laws.proofs.EventLemmas.{item_event}
use Rattle.im_store_laws.proofs.laws.an_entry_is_a_prove.Goals as goal

pub returns : goal.returns
returns c = λ hash history number index state item h some order within few proves. item_event hash history number index state item h some order within few proves
