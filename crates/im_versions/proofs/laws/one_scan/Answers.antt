use Rattle.im_versions.proofs.VersionLemmas.{scan-unique}
use Rattle.im_versions.proofs.laws.one_scan.Goals as goal

pub returns : goal.returns
returns c = λ history prefix a b s t. scan-unique history prefix a b s t
