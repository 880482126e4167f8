use Rattle.im_text.proofs.FindsLemmas.{Finds-none}
use Rattle.im_script.proofs.lines.read_sql.Goals as goal

pub returns-in_default : goal.returns-in_default
returns-in_default c = λ x h. Finds-none _ c.in_ok-text.field-0 c.in_default.not-Some c.in_ok-text.ensures h.0 h.2
