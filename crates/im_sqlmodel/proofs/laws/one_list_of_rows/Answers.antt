use Rattle.im_sqlmodel.proofs.OnceLemmas.{one-count, one-list, one-history}
use Rattle.im_sqlmodel.proofs.laws.one_list_of_rows.Goals as goal

pub returns-clause-count : goal.returns-clause-count
returns-clause-count c history a b x y = one-count history a b x y

pub returns-clause-rows : goal.returns-clause-rows
returns-clause-rows c history t a b x y = one-list history t a b x y

pub returns-clause-revisions : goal.returns-clause-revisions
returns-clause-revisions c history t a b x y = one-history history t a b x y
