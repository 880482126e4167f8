use Rattle.im_versions.proofs.VersionLemmas.{refusal-none}
use Rattle.im_versions.proofs.laws.admitted_or_refused.Goals as goal

pub returns : goal.returns
returns c = λ history pres. refusal-none history pres
