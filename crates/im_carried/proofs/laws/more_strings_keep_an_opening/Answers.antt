use Rattle.im_carried.proofs.OpenLemmas.{IsOpened-more}
use Rattle.im_carried.proofs.laws.more_strings_keep_an_opening.Goals as goal

pub returns : goal.returns
returns c = λ hash state t a strings more among opened. IsOpened-more hash state t a strings more among opened
