use Rattle.im_script.proofs.CommandLemmas.{prove-no-numbers}
use Rattle.im_script.proofs.NumberLemmas.{nothing-found}
use Rattle.im_script.proofs.lines.read_prove.Goals as goal

pub returns-in_err-source : goal.returns-in_err-source
returns-in_err-source c =
    nothing-found _ c.from_residual.result c.from_residual.ensures (prove-no-numbers c.args.text.now c.in_err-source.ensures)
