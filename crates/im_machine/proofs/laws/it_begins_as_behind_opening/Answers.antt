use Rattle.im_machine.proofs.StartLemmas.{begins}
use Rattle.im_machine.proofs.laws.it_begins_as_behind_opening.Goals as goal

pub returns : goal.returns
returns c = λ hash. begins hash
