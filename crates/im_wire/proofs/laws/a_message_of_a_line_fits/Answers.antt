use Rattle.im_wire.proofs.FitLemmas.{said-fits}
use Rattle.im_wire.proofs.laws.a_message_of_a_line_fits.Goals as goal

pub returns : goal.returns
returns c = λ line message says. said-fits says.0 message says.2
