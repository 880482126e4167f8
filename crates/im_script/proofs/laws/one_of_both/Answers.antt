use Rattle.im_script.proofs.ScriptDecided.{script-or-stop}
use Rattle.im_script.proofs.laws.one_of_both.Goals as goal

pub returns : goal.returns
returns c = script-or-stop
