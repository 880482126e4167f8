use Rattle.im_facts.proofs.ForkLemmas.{second-fact}
use Rattle.im_facts.proofs.VerdictSome.{line-fits, verdicts-exist, client-by-all}
use Rattle.im_facts.proofs.laws.lines_have_verdicts.Goals as goal

pub returns-clause-verdicts : goal.returns-clause-verdicts
returns-clause-verdicts c = λ hash known lines size client.
    verdicts-exist hash known lines line-fits (λ after line is m says passes differs. second-fact hash size after m is (line-fits line m says) passes differs) client

pub returns-clause-client : goal.returns-clause-client
returns-clause-client c = λ hash known lines verdicts client are. client-by-all hash known lines verdicts line-fits client are
