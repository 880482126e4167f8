use Rattle.im_facts.proofs.VerdictLemmas.{verdicts-one, all-same-known}
use Rattle.im_facts.proofs.laws.one_list_of_verdicts_but_for_pairs.Goals as goal

pub returns-clause-verdicts : goal.returns-clause-verdicts
returns-clause-verdicts c = verdicts-one

pub returns-clause-keeps : goal.returns-clause-keeps
returns-clause-keeps c = all-same-known
