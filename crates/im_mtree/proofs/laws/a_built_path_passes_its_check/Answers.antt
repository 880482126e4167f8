use Rattle.im_mtree.proofs.InclusionLemmas.{inclusion-passes}
use Rattle.im_mtree.proofs.laws.a_built_path_passes_its_check.Goals as goal

pub returns : goal.returns
returns c = λ hash digests i h. inclusion-passes hash digests i h
