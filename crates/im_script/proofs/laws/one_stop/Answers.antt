use Rattle.im_script.proofs.Unique.{one-stop}
use Rattle.im_script.proofs.laws.one_stop.Goals as goal

pub returns : goal.returns
returns c = one-stop
