use Rattle.im_words.proofs.FormLemmas.{run_not_show, show_asks, verify_not_show}
use Rattle.im_words.proofs.laws.a_show_form_asks_for_show.Goals as goal

pub returns-clause-asks : goal.returns-clause-asks
returns-clause-asks c = show_asks

pub returns-clause-no_run : goal.returns-clause-no_run
returns-clause-no_run c = λ words form run. run_not_show words run (show_asks words form)

pub returns-clause-no_verify : goal.returns-clause-no_verify
returns-clause-no_verify c = λ words form verify. verify_not_show words verify (show_asks words form)
