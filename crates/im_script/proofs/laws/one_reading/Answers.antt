use Rattle.im_script.proofs.Unique.{script-unique}
use Rattle.im_script.proofs.laws.one_reading.Goals as goal

pub returns : goal.returns
returns c = script-unique
