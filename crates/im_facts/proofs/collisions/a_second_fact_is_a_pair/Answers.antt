use Rattle.im_facts.proofs.ForkLemmas.{second-fact}
use Rattle.im_facts.proofs.collisions.a_second_fact_is_a_pair.Goals as goal

pub returns : goal.returns
returns c = λ hash known message size client fits passes differs. second-fact hash size known message client fits passes differs
