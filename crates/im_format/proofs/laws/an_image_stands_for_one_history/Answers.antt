use Rattle.im_format.proofs.StandReads.{stands-once}
use Rattle.im_format.proofs.laws.an_image_stands_for_one_history.Goals as goal

pub returns : goal.returns
returns c = λ hash image a b long s t. stands-once hash image a b (record { long = long }) s t
