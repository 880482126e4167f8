use Rattle.im_facts.proofs.NewsLemmas.{accepted-same, all-same}
use Rattle.im_facts.proofs.laws.only_the_message_is_left_out.Goals as goal

pub returns-clause-message : goal.returns-clause-message
returns-clause-message c = accepted-same

pub returns-clause-lines : goal.returns-clause-lines
returns-clause-lines c = all-same
