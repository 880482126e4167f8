use Rattle.im_store_laws.proofs.EventLemmas.{advance_event, dual_event, header_event}
use Rattle.im_store_laws.proofs.laws.a_proof_is_a_prove.Goals as goal

pub returns-clause-header : goal.returns-clause-header
returns-clause-header c = λ hash history k some within. header_event hash history k some within

pub returns-clause-dual : goal.returns-clause-dual
returns-clause-dual c = λ hash history s t h some order within. dual_event hash history s t h some order within

pub returns-clause-advance : goal.returns-clause-advance
returns-clause-advance c = λ hash history s t h some order within. advance_event hash history s t h some order within
