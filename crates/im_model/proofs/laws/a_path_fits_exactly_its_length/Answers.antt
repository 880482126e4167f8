use Rattle.im_model.proofs.Lengths.{path-fits}
use Rattle.im_model.proofs.laws.a_path_fits_exactly_its_length.Goals as goal

pub returns : goal.returns
returns c = λ n i path h. path-fits n i path h
