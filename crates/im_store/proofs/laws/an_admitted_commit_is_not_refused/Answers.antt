use Rattle.im_store.proofs.laws.an_admitted_commit_is_not_refused.Goals as goal

pub returns : goal.returns
returns c = λ asked old new why at none refused. absurd (cc (none at refused.above, refused.refused))
