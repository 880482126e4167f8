use Rattle.std.proofs.Common.{List, ℕ, ◌≡◌, take, subst, arith, Result, Ok}
use Rattle.std.proofs.lemmas.Result.{IfErr-weaker, IfOk-weaker}
use Rattle.im_dealing.specs.declared.errors.LineError.{LineError}
use Rattle.im_dealing.specs.declared.errors.LineError.TheVariants.{Memory}
use Rattle.im_octet.proofs.Common.{if-err}
use Rattle.im_script.specs.declared.commands.Command.TheVariants.{Sql}
use Rattle.im_session.proofs.ReadLemmas.{keys_length, later_thrice}
use Rattle.im_session.proofs.StatementLemmas.{counted_on, counted_unanswered, read_history, read_kept, run_asks, run_said, seen_later, shown_answered, shown_other}
use Rattle.im_session.specs.Answered.{IsUnanswered}
use Rattle.im_session.specs.Statements.{HasCounted}
use Rattle.im_sqlmodel.specs.declared.answers.SqlError.{SqlError}
use Rattle.im_sqlmodel.specs.declared.answers.SqlOut.{SqlOut}
use Rattle.im_sqlmodel.specs.declared.answers.SqlOut.TheVariants as out
use Rattle.im_sqlparse.specs.Statements.{statement_of}
use Rattle.im_sqlreply.specs.Shown.{IsShown}
use Rattle.im_store.proofs.GainLemmas.{gains_before}
use Rattle.im_table.proofs.PassLemmas.{later_both}
use Rattle.im_table.specs.Histories.{history_of}
use Rattle.im_table.specs.Known.{KnownPass}
use Rattle.im_session.proofs.statements.answer_statement.Goals as goal
use Rattle.im_session.proofs.statements.answer_statement.Goals.{in_default-via-in-Ok+in-Rows-1, in_default-via-in-Err-1}

pub run-answer-requires : goal.run-answer-requires
run-answer-requires g c =
    let n : ℕ = c.args.number in
    let read : KnownPass = c.keys_at.new.pass in
    let shown : KnownPass = c.show.new.pass in
    let keys = c.in_ok-keys.ensures.keys in
    let list = c.show.ensures.list in
    let found = c.requires.found in
    let kept = c.a_list_is_kept.ensures g.N.TipName.found shown.view.seen list.goes_on found.marked list.history list.meets.law found.kept in
    let later = c.show.ensures.later in (
      take n (history_of read.view.seen),
      keys.shows,
      omega (arith, keys_length read n c.in_ok-keys.keys keys),
      read_history read shown n later keys.seen list.history,
      read_kept read shown n later keys.seen kept,
    )

-- something is to be written
pub commit_read-requires-clause-asks : goal.commit_read-requires-clause-asks
commit_read-requires-clause-asks g c =
    let list = c.show.ensures.list in
    let found = c.requires.found in
    let kept = c.a_list_is_kept.ensures g.N.TipName.found c.show.new.pass.view.seen list.goes_on found.marked list.history list.meets.law found.kept in
    let is : c.run-answer.result ≡ Ok (out.Write c.in-Ok-Write.prepared) = cc (c.in-Ok-Write.is, c.in-Ok-Write.field-0-is) in (
      c.args.stmt.now,
      run_asks c.keys_at.new.pass c.show.new.pass c.args.number c.in_ok-keys.keys c.args.stmt.now c.run-answer.result c.in-Ok-Write.prepared c.requires.formed
          c.in_ok-keys.ensures.keys c.show.ensures.later list.history kept c.run-answer.ensures is,
    )

pub commit_read-requires-clause-law : goal.commit_read-requires-clause-law
commit_read-requires-clause-law g c =
    let list = c.show.ensures.list in
    let found = c.requires.found in
    let kept = c.a_list_is_kept.ensures g.N.TipName.found c.show.new.pass.view.seen list.goes_on found.marked list.history list.meets.law found.kept in
    let is : c.run-answer.result ≡ Ok (out.Write c.in-Ok-Write.prepared) = cc (c.in-Ok-Write.is, c.in-Ok-Write.field-0-is) in
    let asks = run_asks c.keys_at.new.pass c.show.new.pass c.args.number c.in_ok-keys.keys c.args.stmt.now c.run-answer.result c.in-Ok-Write.prepared c.requires.formed
    c.in_ok-keys.ensures.keys c.show.ensures.later list.history kept c.run-answer.ensures is in
    c.a_statement_may_be_placed.ensures c.show.new.pass.view.seen c.args.number c.args.stmt.now c.in-Ok-Write.prepared asks.seen asks.formed asks.asks

pub returns-in-Ok-Write-clause-ok : goal.returns-in-Ok-Write-clause-ok
returns-in-Ok-Write-clause-ok g c =
    let old : KnownPass = c.args.pass.now in
    let read : KnownPass = c.keys_at.new.pass in
    let shown : KnownPass = c.show.new.pass in
    let n : ℕ = c.args.number in
    let list = c.show.ensures.list in
    let found = c.requires.found in
    let kept = c.a_list_is_kept.ensures g.N.TipName.found shown.view.seen list.goes_on found.marked list.history list.meets.law found.kept in
    let is : c.run-answer.result ≡ Ok (out.Write c.in-Ok-Write.prepared) = cc (c.in-Ok-Write.is, c.in-Ok-Write.field-0-is) in
    let asks = run_asks read shown n c.in_ok-keys.keys c.args.stmt.now c.run-answer.result c.in-Ok-Write.prepared c.requires.formed c.in_ok-keys.ensures.keys c.show.ensures.later list.history kept
    c.run-answer.ensures is in
    let later = later_both old read shown c.keys_at.ensures.later c.show.ensures.later in
    let gains = gains_before 0 0 old read shown c.keys_at.ensures.gains c.show.ensures.gains in
    IfOk-weaker c.commit_read.result _ _ (λ answer each. λ first text counted said. each first text c.args.stmt.now (counted_on first old shown n counted later gains) said asks) c.commit_read.ensures.ok

pub returns-in-Ok-Write-clause-err : goal.returns-in-Ok-Write-clause-err
returns-in-Ok-Write-clause-err g c =
    let old : KnownPass = c.args.pass.now in
    let read : KnownPass = c.keys_at.new.pass in
    let shown : KnownPass = c.show.new.pass in
    let n : ℕ = c.args.number in
    let list = c.show.ensures.list in
    let found = c.requires.found in
    let kept = c.a_list_is_kept.ensures g.N.TipName.found shown.view.seen list.goes_on found.marked list.history list.meets.law found.kept in
    let is : c.run-answer.result ≡ Ok (out.Write c.in-Ok-Write.prepared) = cc (c.in-Ok-Write.is, c.in-Ok-Write.field-0-is) in
    let asks = run_asks read shown n c.in_ok-keys.keys c.args.stmt.now c.run-answer.result c.in-Ok-Write.prepared c.requires.formed c.in_ok-keys.ensures.keys c.show.ensures.later list.history kept
    c.run-answer.ensures is in
    let later = later_both old read shown c.keys_at.ensures.later c.show.ensures.later in
    let gains = gains_before 0 0 old read shown c.keys_at.ensures.gains c.show.ensures.gains in
    IfErr-weaker c.commit_read.result _ _ (λ why each. λ first text counted said. each first text c.args.stmt.now (counted_on first old shown n counted later gains) said asks) c.commit_read.ensures.err

-- nothing is
pub returns-in_ok-reply-in_default-clause-ok : goal.returns-in_ok-reply-in_default-clause-ok
returns-in_ok-reply-in_default-clause-ok g c first text counted is =
    let old : KnownPass = c.args.pass.now in
    let read : KnownPass = c.keys_at.new.pass in
    let shown : KnownPass = c.show.new.pass in
    let n : ℕ = c.args.number in
    let list = c.show.ensures.list in
    let found = c.requires.found in
    let keys = c.in_ok-keys.ensures.keys in
    let kept = c.a_list_is_kept.ensures g.N.TipName.found shown.view.seen list.goes_on found.marked list.history list.meets.law found.kept in
    let same : c.in_default-1.answer ≡ c.run-answer.result = elim c.in_default-1.branch [
      | in_default-via-in-Ok+in-Rows-1 w ↦ cc (w.answer-is)
      | in_default-via-in-Err-1 w ↦ cc (w.answer-is)
    ] in
    let reply : List ℕ = c.in_ok-reply-in_default.reply.items in
    let told = subst (λ (r : Result SqlOut SqlError). IsShown r reply) same c.in_ok-reply-in_default.ensures.ok in
    let said = run_said read shown n c.in_ok-keys.keys c.args.stmt.now c.run-answer.result keys c.show.ensures.later list.history kept c.run-answer.ensures
    (shown_other c.run-answer.result reply told) in
    let later = later_both old read shown c.keys_at.ensures.later c.show.ensures.later in
    let gains = gains_before 0 0 old read shown c.keys_at.ensures.gains c.show.ensures.gains in
    shown_answered g.N.TipName.digest first old shown text c.args.stmt.now c.run-answer.result (record { number = n; reply = c.in_ok-reply-in_default.reply }) counted later gains is
    (seen_later read shown n c.show.ensures.later keys.seen) said told

-- memory ran out
pub returns-in_err-keys-clause-err : goal.returns-in_err-keys-clause-err
returns-in_err-keys-clause-err g c =
    let n : ℕ = c.args.number in
    let read : KnownPass = c.keys_at.new.pass in
    if-err (λ (why : LineError). (first : KnownPass) (text : List ℕ) → HasCounted first c.args.pass.now n → statement_of text ≡ Ok c.args.stmt.now → IsUnanswered first read (Sql text) why)
    c.from_residual.result Memory c.from_residual.ensures.1
    (λ first text counted said. counted_unanswered first c.args.pass.now read n text counted c.keys_at.ensures.later c.keys_at.ensures.gains)

pub returns-in_ok-reply-in_default-clause-later : goal.returns-in_ok-reply-in_default-clause-later
returns-in_ok-reply-in_default-clause-later g c = later_both c.args.pass.now c.keys_at.new.pass c.show.new.pass c.keys_at.ensures.later c.show.ensures.later

pub returns-in_err-reply-in_default-clause-later : goal.returns-in_err-reply-in_default-clause-later
returns-in_err-reply-in_default-clause-later g c = later_both c.args.pass.now c.keys_at.new.pass c.show.new.pass c.keys_at.ensures.later c.show.ensures.later

pub returns-in-Ok-Write-clause-later : goal.returns-in-Ok-Write-clause-later
returns-in-Ok-Write-clause-later g c =
    later_thrice c.args.pass.now c.keys_at.new.pass c.show.new.pass c.commit_read.new.pass c.keys_at.ensures.later c.show.ensures.later c.commit_read.ensures.later
