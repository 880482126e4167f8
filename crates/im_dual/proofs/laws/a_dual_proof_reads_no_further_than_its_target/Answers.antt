use Rattle.im_dual.proofs.FrontLemmas.{front-anchor, front-between}
use Rattle.im_dual.proofs.laws.a_dual_proof_reads_no_further_than_its_target.Goals as goal

pub returns-clause-dual : goal.returns-clause-dual
returns-clause-dual c = λ hash history s t n h some order within few. front-between hash history s t n h some order within few

pub returns-clause-anchor : goal.returns-clause-anchor
returns-clause-anchor c = λ hash history s t n h some order within few. front-anchor hash history s t n h some order within few
