use Rattle.im_verify.proofs.LeftLemmas.{at-left, done-left, into-left, off-left}
use Rattle.im_verify.proofs.laws.what_is_left_is_taken.Goals as goal

pub returns-clause-done : goal.returns-clause-done
returns-clause-done c = done-left

pub returns-clause-into : goal.returns-clause-into
returns-clause-into c = into-left

pub returns-clause-off : goal.returns-clause-off
returns-clause-off c = off-left

pub returns-clause-at : goal.returns-clause-at
returns-clause-at c = at-left
