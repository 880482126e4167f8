use Rattle.im_sqlsound.proofs.StatementLemmas.{statement-kept}
use Rattle.im_sqlsound.proofs.laws.a_statement_keeps.Goals as goal

pub returns : goal.returns
returns c history tx n said asked is kept within formed answer admits writes = statement-kept history tx n said asked is kept within formed answer admits writes
