use Rattle.im_report.proofs.KeptLemmas.{keeps_replies}
use Rattle.im_report.proofs.laws.what_is_left_keeps_the_replies.Goals as goal

pub returns : goal.returns
returns c = keeps_replies
