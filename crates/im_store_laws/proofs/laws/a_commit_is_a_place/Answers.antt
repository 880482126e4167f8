use Rattle.im_store_laws.proofs.EventLemmas.{place_event, refusal_event}
use Rattle.im_store_laws.proofs.laws.a_commit_is_a_place.Goals as goal

pub returns-clause-placed : goal.returns-clause-placed
returns-clause-placed c = λ hash time asked old new n p. place_event hash time asked old new n p

pub returns-clause-refused : goal.returns-clause-refused
returns-clause-refused c = λ hash asked old new why at r. refusal_event hash asked old new why at r
