use Rattle.im_format.proofs.WrittenLemmas.{each-stands}
use Rattle.im_format.proofs.laws.each_history_has_an_image.Goals as goal

pub returns : goal.returns
returns c = λ hash history is. each-stands hash history is
