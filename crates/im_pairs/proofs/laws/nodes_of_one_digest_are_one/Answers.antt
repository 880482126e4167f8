use Rattle.im_pairs.proofs.PairLemmas.{same_node}
use Rattle.im_pairs.proofs.laws.nodes_of_one_digest_are_one.Goals as goal

pub returns : goal.returns
returns c = λ hash left right left2 right2 strings long long2 same on on2. same_node hash left right left2 right2 strings long long2 same on on2
