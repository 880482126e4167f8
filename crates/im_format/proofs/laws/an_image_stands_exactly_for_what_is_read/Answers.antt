use Rattle.im_format.proofs.FieldsBack.{small-all}
use Rattle.im_format.proofs.StandReads.{stands-read}
use Rattle.im_format.proofs.StandsBack.{read-stands}
use Rattle.im_format.proofs.laws.an_image_stands_exactly_for_what_is_read.Goals as goal

pub returns : goal.returns
returns c = λ hash image history long logs batches. (λ s. stands-read hash image history (record { long = long }) s, λ h. read-stands hash image history (small-all _ logs) (small-all _ batches) h.0 h.1)
