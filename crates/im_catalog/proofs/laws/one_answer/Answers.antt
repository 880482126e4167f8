use Rattle.im_catalog.proofs.OneLemmas.{one-answer}
use Rattle.im_catalog.proofs.laws.one_answer.Goals as goal

pub returns : goal.returns
returns c history said a b x y = one-answer history said a b x y
