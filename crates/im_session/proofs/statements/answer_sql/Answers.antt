use Rattle.std.proofs.Common.{◌≡◌, ℕ, List, sym, subst, Result, Ok, Err}
use Rattle.std.specs.Prelude.{IfOk}
use Rattle.std.proofs.lemmas.Result.{IfErr-weaker, IfOk-weaker}
use Rattle.im_dealing.specs.declared.answers.Answer.{Answer}
use Rattle.im_dealing.specs.declared.errors.LineError.{LineError}
use Rattle.im_digest.specs.Digests.{Hash}
use Rattle.im_script.specs.declared.commands.Command.TheVariants.{Sql}
use Rattle.im_session.proofs.ShowLemmas.{shown_unanswered}
use Rattle.im_session.proofs.StatementLemmas.{counted_now, fault_answered}
use Rattle.im_session.specs.Answered.{IsAnswered, IsUnanswered}
use Rattle.im_session.specs.Statements.{HasCounted}
use Rattle.im_sqlparse.specs.Statements.{Parses, statement_of}
use Rattle.im_sqlparse.specs.declared.errors.ParseError.{ParseError}
use Rattle.im_sqlparse.specs.declared.errors.ParseError.TheVariants.{Syntax}
use Rattle.im_sqlparse.specs.declared.errors.SqlSyntax.{SqlSyntax}
use Rattle.im_sqlparse.specs.declared.statements.Form.{Form}
use Rattle.im_sqlreply.specs.Replies.{syntax_reply}
use Rattle.im_store.proofs.GainLemmas.{gains_same, later_self}
use Rattle.im_table.proofs.PassLemmas.{later_both}
use Rattle.im_table.specs.Known.{KnownPass}
use Rattle.im_session.proofs.statements.answer_sql.Goals as goal

pub returns-in-Ok-clause-err : goal.returns-in-Ok-clause-err
returns-in-Ok-clause-err g c =
    let old : KnownPass = c.args.pass.now in
    let tip : KnownPass = c.tip-number.new.pass in
    let t = c.tip-number.ensures in
    let counted = counted_now old tip c.tip-number.result t.later t.gains t.durable.1 t.durable.2 in
    IfErr-weaker c.answer_statement-answer.result _ _ (λ why each. each old c.args.text.now counted c.in-Ok.ensures) c.answer_statement-answer.ensures.err

-- the text isn't in the grammar
unread_answered : (hash : Hash) (first now : KnownPass) (text : List ℕ) (error : ParseError) (n : ℕ) (given : Result Answer LineError) → HasCounted first now n → Parses (statement_of text) (Err error)
    → IfOk given (λ answer. answer.number ≡ n) → IfOk given (λ answer. (fault : SqlSyntax) × (error ≡ Syntax fault) × (answer.reply.items ≡ syntax_reply fault)) → IfOk given (λ answer. IsAnswered hash first now (Sql text) answer)
unread_answered hash first now text error n (Ok answer) counted parsed numbered told =
    let fault : statement_of text ≡ Err told.0 = subst (λ (e : ParseError). Parses (statement_of text) (Err e)) told.1 parsed in
    fault_answered hash first now now text told.0 answer (subst (λ (k : ℕ). HasCounted first now k) (sym numbered) counted) (later_self now) (gains_same now) fault told.2
unread_answered hash first now text error n (Err why) counted parsed numbered told = tt

pub returns-in-Err-clause-ok : goal.returns-in-Err-clause-ok
returns-in-Err-clause-ok g c =
    let hash : Hash = g.N.TipName.digest in
    let old : KnownPass = c.args.pass.now in
    let tip : KnownPass = c.tip-number.new.pass in
    let said : Result Form SqlSyntax = statement_of c.args.text.now in
    let t = c.tip-number.ensures in
    let counted = counted_now old tip c.tip-number.result t.later t.gains t.durable.1 t.durable.2 in
    let parsed : Parses said (Err c.in-Err.error) = subst (λ (r : Result Form ParseError). Parses said r) c.in-Err.is c.parse-parsed.ensures in
    unread_answered hash old tip c.args.text.now c.in-Err.error c.tip-number.result c.unread.result counted parsed c.unread.ensures.number c.unread.ensures.ok

pub returns-in-Ok-clause-ok : goal.returns-in-Ok-clause-ok
returns-in-Ok-clause-ok g c =
    let old : KnownPass = c.args.pass.now in
    let tip : KnownPass = c.tip-number.new.pass in
    let t = c.tip-number.ensures in
    let counted = counted_now old tip c.tip-number.result t.later t.gains t.durable.1 t.durable.2 in
    IfOk-weaker c.answer_statement-answer.result _ _ (λ answer each. each old c.args.text.now counted c.in-Ok.ensures) c.answer_statement-answer.ensures.ok

pub returns-in-Ok-clause-later : goal.returns-in-Ok-clause-later
returns-in-Ok-clause-later g c =
    later_both c.args.pass.now c.tip-number.new.pass c.answer_statement-answer.new.pass c.tip-number.ensures.later c.answer_statement-answer.ensures.later

-- memory ran out
pub returns-in-Err-clause-err : goal.returns-in-Err-clause-err
returns-in-Err-clause-err g c =
    let t = c.tip-number.ensures in
    IfErr-weaker c.unread.result _ _
    (λ why is. subst (λ (w : LineError). IsUnanswered c.args.pass.now c.tip-number.new.pass (Sql c.args.text.now) w) (sym is) (shown_unanswered c.args.pass.now c.tip-number.new.pass (Sql c.args.text.now) t.later t.gains))
    c.unread.ensures.err
