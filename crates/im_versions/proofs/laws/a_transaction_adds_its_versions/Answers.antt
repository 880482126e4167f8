use Rattle.im_versions.proofs.VersionLemmas.{versions-push}
use Rattle.im_versions.proofs.laws.a_transaction_adds_its_versions.Goals as goal

pub returns : goal.returns
returns c = λ history tx. versions-push history tx
