use Rattle.im_words.proofs.FormLemmas.{asks_one, form_asks, form_asks_only, form_asks_so}
use Rattle.im_words.proofs.laws.a_form_asks_for_its_run.Goals as goal

pub returns-clause-asks : goal.returns-clause-asks
returns-clause-asks c = form_asks_so

pub returns-clause-only : goal.returns-clause-only
returns-clause-only c = form_asks_only

pub returns-clause-no_verify : goal.returns-clause-no_verify
returns-clause-no_verify c = λ words logs link form verify. asks_one words (form_asks words logs link form) verify
