use Rattle.im_accept.proofs.SessionLemmas.{phases-taken}
use Rattle.im_accept.proofs.laws.a_client_takes_each_message_of_sessions.Goals as goal

pub returns : goal.returns
returns c = phases-taken
