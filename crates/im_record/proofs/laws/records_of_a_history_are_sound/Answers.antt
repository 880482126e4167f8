use Rattle.im_record.proofs.SoundLemmas.{history-sound}
use Rattle.im_record.proofs.laws.records_of_a_history_are_sound.Goals as goal

pub returns : goal.returns
returns c = history-sound
