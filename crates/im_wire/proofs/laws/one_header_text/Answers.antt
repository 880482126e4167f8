use Rattle.im_wire.proofs.HeaderText.{header-text, state-text}
use Rattle.im_wire.proofs.laws.one_header_text.Goals as goal

pub returns-clause-inside : goal.returns-clause-inside
returns-clause-inside c = header-text

pub returns-clause-state : goal.returns-clause-state
returns-clause-state c = state-text
