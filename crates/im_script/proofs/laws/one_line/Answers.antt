use Rattle.im_script.proofs.Unique.{line-unique}
use Rattle.im_script.proofs.laws.one_line.Goals as goal

pub returns : goal.returns
returns c = line-unique
