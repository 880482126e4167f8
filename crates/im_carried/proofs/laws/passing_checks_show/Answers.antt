use Rattle.im_carried.proofs.PassLemmas.{dual-shown}
use Rattle.im_carried.proofs.laws.passing_checks_show.Goals as goal

pub returns : goal.returns
returns c = λ hash p strings fits passes among. dual-shown hash p strings fits passes among
