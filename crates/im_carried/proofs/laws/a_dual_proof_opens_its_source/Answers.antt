use Rattle.im_carried.proofs.OpenLemmas.{source_opens}
use Rattle.im_carried.proofs.laws.a_dual_proof_opens_its_source.Goals as goal

pub returns : goal.returns
returns c = λ hash source target tip strings size shows. source_opens hash size source target tip strings shows
