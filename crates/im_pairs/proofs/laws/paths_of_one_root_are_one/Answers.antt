use Rattle.im_pairs.proofs.UpLemmas.{same_lead}
use Rattle.im_pairs.proofs.laws.paths_of_one_root_are_one.Goals as goal

pub returns : goal.returns
returns c = λ hash n i digest digest2 path path2 root strings size l r. same_lead hash size n i digest digest2 path path2 root strings l r
