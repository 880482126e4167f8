use Rattle.im_accept.proofs.SessionLemmas.{one-writing, phases-texts, whole-texts}
use Rattle.im_accept.proofs.laws.phases_are_cut_into_their_lines.Goals as goal

pub returns-clause-each : goal.returns-clause-each
returns-clause-each c = phases-texts

pub returns-clause-all : goal.returns-clause-all
returns-clause-all c = whole-texts

pub returns-clause-one : goal.returns-clause-one
returns-clause-one c = one-writing
