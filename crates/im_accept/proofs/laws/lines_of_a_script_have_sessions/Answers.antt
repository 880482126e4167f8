use Rattle.im_accept.proofs.CutLemmas.{script-sessions}
use Rattle.im_accept.proofs.laws.lines_of_a_script_have_sessions.Goals as goal

pub returns : goal.returns
returns c = script-sessions
