use Rattle.im_facts.proofs.VerdictLemmas.{verdict-one}
use Rattle.im_facts.proofs.laws.one_verdict_but_for_its_pair.Goals as goal

pub returns : goal.returns
returns c = verdict-one
