use Rattle.im_wire.proofs.LineLemmas.{line-unique}
use Rattle.im_wire.proofs.laws.one_reading.Goals as goal

pub returns : goal.returns
returns c = line-unique
