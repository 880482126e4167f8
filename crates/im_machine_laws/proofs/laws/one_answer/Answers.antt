use Rattle.im_machine_laws.proofs.OneLemmas.{one-step}
use Rattle.im_machine_laws.proofs.laws.one_answer.Goals as goal

pub returns : goal.returns
returns c = λ hash m one other event told told_too gives first second. one-step hash m one other event told told_too gives first second
