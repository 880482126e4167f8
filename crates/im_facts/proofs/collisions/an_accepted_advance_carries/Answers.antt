use Rattle.im_facts.proofs.ForkLemmas.{advance-carries}
use Rattle.im_facts.proofs.collisions.an_accepted_advance_carries.Goals as goal

pub returns : goal.returns
returns c = λ hash state dual anchor t a strings size fits is passes among among2 opened. advance-carries hash size state dual anchor t a strings fits is passes among among2 opened
