use Rattle.im_facts.proofs.ForkLemmas.{second-fact}
use Rattle.im_facts.proofs.VerdictSome.{line-fits, verdict-exists}
use Rattle.im_facts.proofs.laws.each_line_has_a_verdict.Goals as goal

pub returns : goal.returns
returns c = λ hash known line size client.
    verdict-exists hash known line (λ m says passes differs. second-fact hash size known m client (line-fits line m says) passes differs)
