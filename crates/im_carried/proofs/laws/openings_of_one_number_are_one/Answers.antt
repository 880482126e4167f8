use Rattle.im_carried.proofs.OpenLemmas.{same_opened}
use Rattle.im_carried.proofs.laws.openings_of_one_number_are_one.Goals as goal

pub returns : goal.returns
returns c = λ hash state t a b strings size l r. same_opened hash size state t a b strings l r
