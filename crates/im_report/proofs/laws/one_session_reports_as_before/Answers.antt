use Rattle.im_report.proofs.AloneLemmas.{alone}
use Rattle.im_report.proofs.laws.one_session_reports_as_before.Goals as goal

pub returns : goal.returns
returns c = alone
