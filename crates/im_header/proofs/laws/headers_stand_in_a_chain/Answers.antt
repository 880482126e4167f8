use Rattle.im_model.proofs.HeaderLemmas.{alh_of-next, header-number, header-previous, header-prefix}
use Rattle.im_header.proofs.laws.headers_stand_in_a_chain.Goals as goal

pub returns-clause-number : goal.returns-clause-number
returns-clause-number c = header-number

pub returns-clause-previous : goal.returns-clause-previous
returns-clause-previous c = header-previous

pub returns-clause-own : goal.returns-clause-own
returns-clause-own c = alh_of-next

pub returns-clause-prefix : goal.returns-clause-prefix
returns-clause-prefix c = header-prefix
