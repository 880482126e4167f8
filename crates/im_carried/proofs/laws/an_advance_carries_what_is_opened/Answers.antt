use Rattle.im_carried.proofs.AdvanceLemmas.{advance}
use Rattle.im_carried.proofs.laws.an_advance_carries_what_is_opened.Goals as goal

pub returns : goal.returns
returns c = λ hash source target t a strings size shows opened. advance hash size source target strings shows t a opened
