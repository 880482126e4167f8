use Rattle.im_sqlparse.proofs.FormedStatements.{statement_formed}
use Rattle.im_sqlparse.proofs.laws.what_is_read_is_formed.Goals as goal

pub returns : goal.returns
returns c text said is = statement_formed text said is
