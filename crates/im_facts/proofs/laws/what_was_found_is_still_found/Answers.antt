use Rattle.im_facts.proofs.KnownLemmas.{client-still-header, client-still-entry}
use Rattle.im_facts.proofs.NewsLemmas.{accepted-still-entry, accepted-still-header}
use Rattle.im_facts.proofs.laws.what_was_found_is_still_found.Goals as goal

pub returns-clause-header : goal.returns-clause-header
returns-clause-header c = client-still-header

pub returns-clause-entry : goal.returns-clause-entry
returns-clause-entry c = client-still-entry

pub returns-clause-accepted_header : goal.returns-clause-accepted_header
returns-clause-accepted_header c = accepted-still-header

pub returns-clause-accepted_entry : goal.returns-clause-accepted_entry
returns-clause-accepted_entry c = accepted-still-entry
