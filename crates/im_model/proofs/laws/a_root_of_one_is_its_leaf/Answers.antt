use Rattle.std.proofs.Common.{[], ◌∷◌, arith}
use Rattle.im_model.proofs.TreeLemmas.{root-one}
use Rattle.im_model.proofs.laws.a_root_of_one_is_its_leaf.Goals as goal

pub returns : goal.returns
returns c = λ hash digest. root-one hash (digest ∷ []) (omega arith) (omega arith)
