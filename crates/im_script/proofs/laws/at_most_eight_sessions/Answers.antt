use Rattle.im_script.proofs.NameLemmas.{few-sessions}
use Rattle.im_script.proofs.laws.at_most_eight_sessions.Goals as goal

pub returns : goal.returns
returns c = few-sessions
