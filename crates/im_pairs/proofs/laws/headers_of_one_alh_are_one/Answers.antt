use Rattle.im_pairs.proofs.HeaderLemmas.{same_header}
use Rattle.im_pairs.proofs.laws.headers_of_one_alh_are_one.Goals as goal

pub returns : goal.returns
returns c = λ hash header header2 strings f g same a b. same_header hash header header2 strings f g same a b
