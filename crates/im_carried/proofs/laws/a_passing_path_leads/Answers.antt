use Rattle.im_carried.proofs.ShowLemmas.{path-leads}
use Rattle.im_carried.proofs.laws.a_passing_path_leads.Goals as goal

pub returns : goal.returns
returns c = λ hash digest root i width path strings digests passes among. path-leads hash width i root digest path strings digests passes among
