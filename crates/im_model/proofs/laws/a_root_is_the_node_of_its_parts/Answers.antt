use Rattle.std.proofs.Common.{length, refl}
use Rattle.im_model.specs.Trees.{split_of}
use Rattle.im_model.proofs.TreeLemmas.{root-split}
use Rattle.im_model.proofs.laws.a_root_is_the_node_of_its_parts.Goals as goal

pub returns : goal.returns
returns c = λ hash digests h. root-split hash digests (split_of (length digests)) h refl
