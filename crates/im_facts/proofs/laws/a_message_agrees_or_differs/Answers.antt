use Rattle.im_facts.proofs.AgreeLemmas.{agrees-or-differs, not-both}
use Rattle.im_facts.proofs.laws.a_message_agrees_or_differs.Goals as goal

pub returns-clause-one_of_both : goal.returns-clause-one_of_both
returns-clause-one_of_both c = agrees-or-differs

pub returns-clause-not_both : goal.returns-clause-not_both
returns-clause-not_both c = not-both
