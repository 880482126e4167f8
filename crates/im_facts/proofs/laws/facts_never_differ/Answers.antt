use Rattle.im_facts.proofs.KnownLemmas.{headers-one, entries-of-one}
use Rattle.im_facts.proofs.NewsLemmas.{accepted-entries-one, accepted-headers-one}
use Rattle.im_facts.proofs.laws.facts_never_differ.Goals as goal

pub returns-clause-headers : goal.returns-clause-headers
returns-clause-headers c = headers-one

pub returns-clause-entries : goal.returns-clause-entries
returns-clause-entries c = entries-of-one

pub returns-clause-accepted_headers : goal.returns-clause-accepted_headers
returns-clause-accepted_headers c = accepted-headers-one

pub returns-clause-accepted_entries : goal.returns-clause-accepted_entries
returns-clause-accepted_entries c = accepted-entries-one
