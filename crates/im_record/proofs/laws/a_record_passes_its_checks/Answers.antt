use Rattle.im_record.proofs.PassLemmas.{record-passes}
use Rattle.im_record.proofs.laws.a_record_passes_its_checks.Goals as goal

pub returns : goal.returns
returns c = record-passes
