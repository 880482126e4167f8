use Rattle.im_text.proofs.FindsLemmas.{Finds-none}
use Rattle.im_script.proofs.PreLemmas.{missing-no-key}
use Rattle.im_script.proofs.pres.read_missing.Goals as goal

pub returns-in_default : goal.returns-in_default
returns-in_default c =
    missing-no-key c.args.word.now (Finds-none _ c.in_ok-key.field-0 c.in_default.not-Some c.in_ok-key.ensures)
