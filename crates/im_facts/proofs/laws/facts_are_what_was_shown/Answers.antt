use Rattle.im_facts.proofs.KnownLemmas.{client-header, client-entry, client-shown, client-entry-shown}
use Rattle.im_facts.proofs.laws.facts_are_what_was_shown.Goals as goal

pub returns-clause-header : goal.returns-clause-header
returns-clause-header c = client-header

pub returns-clause-entry : goal.returns-clause-entry
returns-clause-entry c = client-entry

pub returns-clause-no_other_header : goal.returns-clause-no_other_header
returns-clause-no_other_header c = client-shown

pub returns-clause-no_other_entry : goal.returns-clause-no_other_entry
returns-clause-no_other_entry c = client-entry-shown
