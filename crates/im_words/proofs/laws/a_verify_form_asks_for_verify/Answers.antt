use Rattle.im_words.proofs.FormLemmas.{asks_one, verify_asks}
use Rattle.im_words.proofs.laws.a_verify_form_asks_for_verify.Goals as goal

pub returns-clause-asks : goal.returns-clause-asks
returns-clause-asks c = verify_asks

pub returns-clause-no_run : goal.returns-clause-no_run
returns-clause-no_run c = λ words form run. asks_one words run (verify_asks words form)
