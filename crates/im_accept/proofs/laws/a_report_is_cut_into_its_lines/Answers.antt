use Rattle.im_accept.proofs.CutLemmas.{one-report, report-texts}
use Rattle.im_accept.proofs.laws.a_report_is_cut_into_its_lines.Goals as goal

pub returns-clause-texts : goal.returns-clause-texts
returns-clause-texts c = report-texts

pub returns-clause-one : goal.returns-clause-one
returns-clause-one c = one-report
