use Rattle.im_model.proofs.Lengths.{consistency-fits}
use Rattle.im_model.proofs.laws.a_consistency_list_fits_exactly_its_length.Goals as goal

pub returns : goal.returns
returns c = λ m n list some within. consistency-fits m n list some within
