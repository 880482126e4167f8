use Rattle.std.proofs.Common.{◌∙◌}
use Rattle.im_words.proofs.FormLemmas.{gen_same, run_not_gen, show_not_gen, verify_not_gen}
use Rattle.im_words.proofs.GenLemmas.{gen_asks_so}
use Rattle.im_words.proofs.laws.a_gen_form_asks_for_its_script.Goals as goal

pub returns-clause-asks : goal.returns-clause-asks
returns-clause-asks c = gen_asks_so

pub returns-clause-only : goal.returns-clause-only
returns-clause-only c = λ words n form asks. gen_same words asks (gen_asks_so words n form).0 ∙ (gen_asks_so words n form).1

pub returns-clause-no_run : goal.returns-clause-no_run
returns-clause-no_run c = λ words n form run. run_not_gen words run (gen_asks_so words n form).0

pub returns-clause-no_verify : goal.returns-clause-no_verify
returns-clause-no_verify c = λ words n form verify. verify_not_gen words verify (gen_asks_so words n form).0

pub returns-clause-no_show : goal.returns-clause-no_show
returns-clause-no_show c = λ words n form show. show_not_gen words show (gen_asks_so words n form).0
