use Rattle.im_verify.proofs.RunLemmas.{at-keeps, into-keeps, off-keeps}
use Rattle.im_verify.proofs.laws.a_told_message_is_kept.Goals as goal

pub returns-clause-into : goal.returns-clause-into
returns-clause-into c = into-keeps

pub returns-clause-off : goal.returns-clause-off
returns-clause-off c = off-keeps

pub returns-clause-at : goal.returns-clause-at
returns-clause-at c = at-keeps
