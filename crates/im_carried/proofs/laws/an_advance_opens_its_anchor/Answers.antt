use Rattle.im_carried.proofs.OpenLemmas.{anchor_opens, anchor-target_opens}
use Rattle.im_carried.proofs.laws.an_advance_opens_its_anchor.Goals as goal

pub returns-clause-source : goal.returns-clause-source
returns-clause-source c = λ hash source target from to tip strings shows anchor. anchor_opens hash source target tip from to strings shows anchor

pub returns-clause-target : goal.returns-clause-target
returns-clause-target c = λ hash source target from to tip strings size shows anchor. anchor-target_opens hash size source target tip from to strings shows anchor
