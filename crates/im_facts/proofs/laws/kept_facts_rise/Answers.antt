use Rattle.im_facts.proofs.KnownLemmas.{client-rises}
use Rattle.im_facts.proofs.laws.kept_facts_rise.Goals as goal

pub returns : goal.returns
returns c = client-rises
