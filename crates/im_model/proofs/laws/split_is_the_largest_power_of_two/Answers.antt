use Rattle.im_model.proofs.TreeLemmas.{split-within, split-power, split-reaches}
use Rattle.im_model.proofs.laws.split_is_the_largest_power_of_two.Goals as goal

pub returns-clause-power : goal.returns-clause-power
returns-clause-power c = λ n h. split-power n

pub returns-clause-below : goal.returns-clause-below
returns-clause-below c = λ n h. (split-within n h).1

pub returns-clause-largest : goal.returns-clause-largest
returns-clause-largest c = λ n h. split-reaches n
