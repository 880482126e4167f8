use Rattle.im_verify.proofs.AgainLemmas.{kept-again}
use Rattle.im_verify.proofs.laws.what_is_kept_is_taken.Goals as goal

pub returns : goal.returns
returns c = kept-again
