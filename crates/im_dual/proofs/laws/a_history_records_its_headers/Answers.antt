use Rattle.im_dual.proofs.RecordLemmas.{headers-recorded, history-linked}
use Rattle.im_dual.proofs.laws.a_history_records_its_headers.Goals as goal

pub returns-clause-recorded : goal.returns-clause-recorded
returns-clause-recorded c = λ hash history k h o l. headers-recorded hash history k h o l

pub returns-clause-linked : goal.returns-clause-linked
returns-clause-linked c = λ hash history. history-linked hash history
