use Rattle.im_model.proofs.Lengths.{path-last}
use Rattle.im_model.proofs.laws.a_last_path_has_a_term_for_each_one.Goals as goal

pub returns : goal.returns
returns c = λ n h. path-last n h
