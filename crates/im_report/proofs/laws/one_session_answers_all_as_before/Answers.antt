use Rattle.im_report.proofs.AloneLemmas.{alone_answered}
use Rattle.im_report.proofs.laws.one_session_answers_all_as_before.Goals as goal

pub returns : goal.returns
returns c = alone_answered
