use Rattle.im_accept.proofs.TakenLemmas.{report-taken}
use Rattle.im_accept.proofs.laws.a_client_takes_each_message.Goals as goal

pub returns : goal.returns
returns c = report-taken
