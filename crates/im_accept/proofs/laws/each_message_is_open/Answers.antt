use Rattle.im_report.proofs.ShownLemmas.{text-opens}
use Rattle.im_accept.proofs.laws.each_message_is_open.Goals as goal

pub returns : goal.returns
returns c = text-opens
