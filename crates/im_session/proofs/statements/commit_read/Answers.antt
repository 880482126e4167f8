use Rattle.std.proofs.Common.{List, ℕ, ◌≡◌, length, take, sym, subst, arith, Ok}
use Rattle.std.proofs.lemmas.Result.{IfErr-weaker, IfOk-weaker}
use Rattle.im_dealing.specs.declared.errors.LineError.{LineError}
use Rattle.im_dealing.specs.declared.errors.LineError.TheVariants.{Memory}
use Rattle.im_octet.proofs.Common.{if-err}
use Rattle.im_script.specs.declared.commands.Command.TheVariants.{Sql}
use Rattle.im_session.proofs.CommitLemmas.{commit_unanswered, placed_unanswered}
use Rattle.im_session.proofs.StatementLemmas.{asks_placed, of_statement, placed_answered, unplaced_answered}
use Rattle.im_session.specs.Answered.{IsUnanswered}
use Rattle.im_session.specs.Statements.{AsksBehind, HasCounted}
use Rattle.im_sqlparse.specs.Statements.{statement_of}
use Rattle.im_sqlparse.specs.declared.statements.Form.{Form}
use Rattle.im_table.specs.Histories.{history_of}
use Rattle.im_table.specs.Known.{KnownPass}
use Rattle.im_session.proofs.statements.commit_read.Goals as goal

-- it was committed
pub returns-in_err-reply-in-Ok-clause-err : goal.returns-in_err-reply-in-Ok-clause-err
returns-in_err-reply-in-Ok-clause-err g c =
    let old : KnownPass = c.args.pass.now in
    let new : KnownPass = c.commit.new.pass in
    let receipt = c.in-Ok.ensures.ok in
    if-err (λ why. (first : KnownPass) (text : List ℕ) (said : Form) → HasCounted first old c.args.read → statement_of text ≡ Ok said → AsksBehind old said c.args.read c.args.prepared
    → IsUnanswered first new (Sql text) why)
    c.from_residual.result Memory c.from_residual.ensures.1
    (λ first text said counted is asks. placed_unanswered g.N.TipName.time c.args.prepared first old new c.args.read c.in-Ok.receipt.id (Sql text)
    (asks_placed first old new text said c.args.read c.args.prepared counted c.commit.ensures.later is asks) receipt.placed c.commit.ensures.later c.in-Ok.ensures.gains)

pub returns-in_ok-reply-in-Ok-clause-ok : goal.returns-in_ok-reply-in-Ok-clause-ok
returns-in_ok-reply-in-Ok-clause-ok g c first text said counted is asks =
    let receipt = c.in-Ok.ensures.ok in
    placed_answered g.N.TipName.digest g.N.TipName.time c.args.prepared first c.args.pass.now c.commit.new.pass c.args.read text said
    (record { number = c.in-Ok.receipt.id; reply = c.in_ok-reply-in-Ok.reply }) counted (omega (arith, c.ranges.read)) is asks receipt.placed receipt.durable
    c.commit.ensures.later c.in-Ok.ensures.gains c.in_ok-reply-in-Ok.ensures

-- it wasn't
pub unplaced-requires : goal.unplaced-requires
unplaced-requires g c =
    let asks = c.requires.asks in
    let front = take c.args.read (history_of c.args.pass.now.view.seen) in
    let since = c.a_statement_asks_since.ensures front asks.0 c.args.prepared asks.1.asks in
    record { asked = of_statement g.N.TipName.time c.args.prepared c.args.pass.now c.commit.new.pass (length front) since.0 c.in-Err.error since.1 c.in-Err.ensures.err }

pub returns-in-Err-clause-ok : goal.returns-in-Err-clause-ok
returns-in-Err-clause-ok g c =
    IfOk-weaker c.unplaced.result _ _
    (λ answer says. λ first text said counted is asks. unplaced_answered g.N.TipName.digest g.N.TipName.time c.args.prepared first c.args.pass.now c.commit.new.pass c.args.read text said
    c.in-Err.error answer counted (omega (arith, c.ranges.read)) is asks c.in-Err.ensures.err c.commit.ensures.later c.in-Err.ensures.gains says)
    c.unplaced.ensures.ok

pub returns-in-Err-clause-err : goal.returns-in-Err-clause-err
returns-in-Err-clause-err g c =
    IfErr-weaker c.unplaced.result _ _
    (λ why is. λ first text said counted read asks. subst (λ (w : LineError). IsUnanswered first c.commit.new.pass (Sql text) w) (sym is)
    (commit_unanswered g.N.TipName.time c.args.prepared first c.args.pass.now c.commit.new.pass c.args.read (Sql text) c.in-Err.error
    (asks_placed first c.args.pass.now c.commit.new.pass text said c.args.read c.args.prepared counted c.commit.ensures.later read asks) c.in-Err.ensures.err c.commit.ensures.later c.in-Err.ensures.gains))
    c.unplaced.ensures.err
