use Rattle.im_wire.proofs.LineLemmas.{message-unique}
use Rattle.im_wire.proofs.laws.one_message.Goals as goal

pub returns : goal.returns
returns c = message-unique
