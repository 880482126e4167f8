use Rattle.im_facts.proofs.KnownLemmas.{client-state}
use Rattle.im_facts.proofs.laws.the_state_is_kept.Goals as goal

pub returns : goal.returns
returns c = client-state
