use Rattle.im_carried.proofs.OpenLemmas.{state_opens}
use Rattle.im_carried.proofs.laws.a_state_is_opened_under_itself.Goals as goal

pub returns : goal.returns
returns c = λ hash state strings size below. state_opens hash size state strings below
