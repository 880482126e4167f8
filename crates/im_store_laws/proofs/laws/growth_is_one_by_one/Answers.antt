use Rattle.im_store_laws.proofs.EventLemmas.{indexes_event, links_event}
use Rattle.im_store_laws.proofs.laws.growth_is_one_by_one.Goals as goal

pub returns-clause-links : goal.returns-clause-links
returns-clause-links c = λ hash before after le. links_event hash before after le

pub returns-clause-indexes : goal.returns-clause-indexes
returns-clause-indexes c = λ hash before after le. indexes_event hash before after le
