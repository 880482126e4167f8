use Rattle.im_text.proofs.FindsLemmas.{Finds-none}
use Rattle.im_script.proofs.sets.read_asked.Goals as goal

pub returns-in_default : goal.returns-in_default
returns-in_default c = λ x h.
    Finds-none _ c.in_ok-drafts.field-0 c.in_default.not-Some c.in_ok-drafts.ensures x.1 (c.in_ok-pres.ensures.only x.0 x.1 h).1
