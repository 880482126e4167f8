use Rattle.im_facts.proofs.NoteLemmas.{knows-once}
use Rattle.im_facts.proofs.laws.a_client_knows_one_thing.Goals as goal

pub returns : goal.returns
returns c = knows-once
