use Rattle.im_facts.proofs.NoteLemmas.{none-knows, none-led}
use Rattle.im_facts.proofs.clients.FactClient.new.Goals as goal

pub returns-clause-empty : goal.returns-clause-empty
returns-clause-empty g c = none-knows c.fresh.result.kept c.fresh.ensures.empty

pub returns-clause-led : goal.returns-clause-led
returns-clause-led g c = λ hash. none-led hash c.fresh.result.kept c.fresh.ensures.empty
