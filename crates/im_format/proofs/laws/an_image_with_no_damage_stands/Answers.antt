use Rattle.im_format.proofs.FieldsBack.{small-all}
use Rattle.im_format.proofs.StandsBack.{undamaged-stands}
use Rattle.im_format.proofs.laws.an_image_with_no_damage_stands.Goals as goal

pub returns : goal.returns
returns c = λ hash image logs batches e. undamaged-stands hash image (small-all _ logs) (small-all _ batches) e
