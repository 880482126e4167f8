use Rattle.im_words.proofs.FormLemmas.{asks_one, run_not_gen, run_not_show, show_not_gen, verify_not_gen, verify_not_show}
use Rattle.im_words.proofs.laws.not_both.Goals as goal

pub returns-clause-run_verify : goal.returns-clause-run_verify
returns-clause-run_verify c = asks_one

pub returns-clause-run_show : goal.returns-clause-run_show
returns-clause-run_show c = run_not_show

pub returns-clause-verify_show : goal.returns-clause-verify_show
returns-clause-verify_show c = verify_not_show

pub returns-clause-run_gen : goal.returns-clause-run_gen
returns-clause-run_gen c = run_not_gen

pub returns-clause-verify_gen : goal.returns-clause-verify_gen
returns-clause-verify_gen c = verify_not_gen

pub returns-clause-show_gen : goal.returns-clause-show_gen
returns-clause-show_gen c = show_not_gen
