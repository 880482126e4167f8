use Rattle.im_store_laws.proofs.EventLemmas.{load_event, look_failed, look_indexed, look_placed}
use Rattle.im_store_laws.proofs.laws.a_look_is_a_load.Goals as goal

pub returns-clause-durable : goal.returns-clause-durable
returns-clause-durable c = λ hash old new number saw. load_event hash old new number saw

pub returns-clause-placed : goal.returns-clause-placed
returns-clause-placed c = λ hash old new number loaded. look_placed hash number

pub returns-clause-indexed : goal.returns-clause-indexed
returns-clause-indexed c = λ hash old new number saw. look_indexed hash number

pub returns-clause-failed : goal.returns-clause-failed
returns-clause-failed c = λ hash old new number saw. look_failed hash number
