use Rattle.std.proofs.Common.{Ok, refl}
use Rattle.im_sqllaw.proofs.AskedLemmas.{answer-asks}
use Rattle.im_sqllaw.proofs.laws.a_statement_asks_since.Goals as goal
use Rattle.im_sqlmodel.specs.declared.answers.SqlOut.TheVariants as out

pub returns : goal.returns
returns c history said asked is = answer-asks history said (Ok (out.Write asked)) is asked refl
