use Rattle.im_sqllaw.proofs.LawLemmas.{law-kept}
use Rattle.im_sqllaw.proofs.laws.a_list_is_kept.Goals as goal

pub returns : goal.returns
returns c found items goes all is met kept = law-kept found items goes all is met kept
