-- A reply that tells an answer is one line, and how it begins.
use Rattle.std.proofs.Common.{ℕ, List, Result, Ok, Err, inl, inr, refl, subst, sym}
use Rattle.im_model.specs.declared.transactions.Transaction.{Transaction}
use Rattle.im_sqlparse.specs.declared.statements.Form.{Form}
use Rattle.im_sqlparse.specs.Formed.{IsStatement}
use Rattle.im_sqlmodel.specs.Answers.{AnswerIs}
use Rattle.im_sqlmodel.specs.declared.answers.SqlError.{SqlError}
use Rattle.im_sqlmodel.specs.declared.answers.SqlOut.{SqlOut}
use Rattle.im_sqlmodel.specs.declared.answers.SqlOut.TheVariants as out
use Rattle.im_text.specs.Cuts.{Lacks}
use Rattle.im_sqlreply.specs.Shown.{IsShown}
use Rattle.im_sqlreply.proofs.AnswerLemmas.{answer-lacks}
use Rattle.im_sqlreply.proofs.NameLemmas.{AnswerLacks}
use Rattle.im_sqlreply.proofs.TextLemmas.{Begins, error-begins, error-lacks, rows-begin, rows-lack}

shown-lacks : (answer : Result SqlOut SqlError) (reply : List ℕ) → AnswerLacks answer → IsShown answer reply → Lacks 10 reply
shown-lacks (Ok (out.Rows rows)) reply name is = subst (Lacks 10) (sym is) (rows-lack rows)
shown-lacks (Ok (out.Write asked)) reply name is = absurd is
shown-lacks (Ok out.Nothing) reply name is = subst (Lacks 10) (sym is) refl
shown-lacks (Err fault) reply name is = subst (Lacks 10) (sym is.1) (error-lacks fault name)

-- it has no LF
pub told-lacks : (history : List Transaction) (said : Form) (answer : Result SqlOut SqlError) (reply : List ℕ) → IsStatement said → AnswerIs history said answer → IsShown answer reply → Lacks 10 reply
told-lacks history said answer reply formed is shown = shown-lacks answer reply (answer-lacks history said answer formed is) shown

-- its first letter is that of rows, of none or of an error
pub told-begins : (answer : Result SqlOut SqlError) (reply : List ℕ) → IsShown answer reply → Begins reply
told-begins (Ok (out.Rows rows)) reply is = subst Begins (sym is) (rows-begin rows)
told-begins (Ok (out.Write asked)) reply is = absurd is
told-begins (Ok out.Nothing) reply is = (_, inr (inl is))
told-begins (Err fault) reply is = subst Begins (sym is.1) (error-begins fault is.0)
