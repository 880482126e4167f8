use Rattle.im_dual.proofs.RecordLemmas.{history-passes}
use Rattle.im_dual.proofs.laws.a_dual_proof_of_a_history_passes_its_check.Goals as goal

pub returns : goal.returns
returns c = λ hash history s t h o l w. history-passes hash history s t h o l w
