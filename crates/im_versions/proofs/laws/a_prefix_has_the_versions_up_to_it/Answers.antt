use Rattle.im_versions.proofs.VersionLemmas.{versions-upto}
use Rattle.im_versions.proofs.laws.a_prefix_has_the_versions_up_to_it.Goals as goal

pub returns : goal.returns
returns c = λ history n. versions-upto history n
