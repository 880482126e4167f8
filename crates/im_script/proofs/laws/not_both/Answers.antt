use Rattle.im_script.proofs.Unique.{read-or-stop}
use Rattle.im_script.proofs.laws.not_both.Goals as goal

pub returns : goal.returns
returns c = read-or-stop
