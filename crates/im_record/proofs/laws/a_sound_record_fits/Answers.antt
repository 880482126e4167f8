use Rattle.im_record.proofs.PassLemmas.{sound-fits}
use Rattle.im_record.proofs.laws.a_sound_record_fits.Goals as goal

pub returns : goal.returns
returns c = sound-fits
