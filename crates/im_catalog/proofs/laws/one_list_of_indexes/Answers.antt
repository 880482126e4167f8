use Rattle.im_catalog.proofs.OneLemmas.{one-indexes}
use Rattle.im_catalog.proofs.laws.one_list_of_indexes.Goals as goal

pub returns : goal.returns
returns c history t a b is x y = one-indexes history t a b is x y
