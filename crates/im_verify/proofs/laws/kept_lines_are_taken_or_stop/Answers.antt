use Rattle.im_verify.proofs.FateLemmas.{one-stop, stop-not-taken}
use Rattle.im_verify.proofs.TakenOrStopped.{kept-or-stops}
use Rattle.im_verify.proofs.laws.kept_lines_are_taken_or_stop.Goals as goal

pub returns-clause-one_of_both : goal.returns-clause-one_of_both
returns-clause-one_of_both c = kept-or-stops

pub returns-clause-not_both : goal.returns-clause-not_both
returns-clause-not_both c = λ hash kept verdicts n taken stops. stop-not-taken hash kept verdicts n stops taken

pub returns-clause-one_stop : goal.returns-clause-one_stop
returns-clause-one_stop c = one-stop
