use Rattle.im_facts.proofs.NewsLemmas.{accepted-entry, accepted-header}
use Rattle.im_facts.proofs.VerdictLemmas.{messages-behind}
use Rattle.im_facts.proofs.laws.accepted_messages_are_known.Goals as goal

pub returns-clause-headers : goal.returns-clause-headers
returns-clause-headers c = accepted-header

pub returns-clause-entries : goal.returns-clause-entries
returns-clause-entries c = accepted-entry

pub returns-clause-messages : goal.returns-clause-messages
returns-clause-messages c = messages-behind
