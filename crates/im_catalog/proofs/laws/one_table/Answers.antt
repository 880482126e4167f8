use Rattle.im_catalog.proofs.OneLemmas.{one-found}
use Rattle.im_catalog.proofs.laws.one_table.Goals as goal

pub returns : goal.returns
returns c history name a b x y = one-found history name a b x y
