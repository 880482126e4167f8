use Rattle.std.proofs.Common.{arith, inl}
use Rattle.std.proofs.lemmas.Result.{IfOk-at_ok}
use Rattle.im_model.specs.declared.headers.Header.{Header}
use Rattle.im_session.proofs.AnswerLemmas.{looked, state_answered, state_told}
use Rattle.im_session.proofs.RefusedLemmas.{header_short}
use Rattle.im_store.proofs.GainLemmas.{gains_same, later_self}
use Rattle.im_store.specs.Reading.{AnswersHeader}
use Rattle.im_table.proofs.PassLemmas.{later_both}
use Rattle.im_script.specs.declared.commands.Command.TheVariants.{State}
use Rattle.im_session.proofs.ShowLemmas.{short_behind, short_unanswered}
use Rattle.im_session.proofs.proofs.answer_state.Goals as goal

-- there is no transaction
pub returns-then-number-eq0-clause-ok : goal.returns-then-number-eq0-clause-ok
returns-then-number-eq0-clause-ok g c =
    let t = c.tip-number.ensures in
    state_answered g.N.TipName.digest c.args.pass.now c.tip-number.new.pass c.tip-number.new.pass (record { number = c.tip-number.result; reply = c.in_ok-reply.reply })
    (looked c.args.pass.now c.tip-number.new.pass c.tip-number.new.pass c.tip-number.result t.later t.gains t.durable (later_self c.tip-number.new.pass) (gains_same c.tip-number.new.pass)) (inl (omega arith, c.in_ok-reply.ensures.items))

pub proved-requires : goal.proved-requires
proved-requires g c = record {
  memory = header_short c.tip-number.new.pass c.header.new.pass c.tip-number.result c.header.result (omega arith) (omega (arith, c.tip-number.ensures.durable.1)) c.header.ensures.err;
}

pub returns-clause-later : goal.returns-clause-later
returns-clause-later g c = later_both c.args.pass.now c.tip-number.new.pass c.header.new.pass c.tip-number.ensures.later c.header.ensures.later

-- it is shown
pub returns-clause-ok : goal.returns-clause-ok
returns-clause-ok g c =
    let t = c.tip-number.ensures in
    let shown = c.in_ok-reply-2.ensures in
    let told = IfOk-at_ok (λ (h : Header). AnswersHeader g.N.TipName.digest c.tip-number.new.pass c.header.new.pass c.tip-number.result h) c.in_ok-header.ensures.same c.header.ensures.ok in
    state_told g.N.TipName.digest c.args.pass.now c.tip-number.new.pass c.header.new.pass (record { number = c.tip-number.result; reply = c.in_ok-reply-2.reply }) c.in_ok-header.header
    (looked c.args.pass.now c.tip-number.new.pass c.header.new.pass c.tip-number.result t.later t.gains t.durable c.header.ensures.later c.header.ensures.gains) (omega arith) told shown.text shown.again

-- memory ran out
pub returns-in_err-reply-clause-err : goal.returns-in_err-reply-clause-err
returns-in_err-reply-clause-err g c = short_unanswered c.args.pass.now c.tip-number.new.pass State c.from_residual.result c.from_residual.ensures.1 c.tip-number.ensures.later c.tip-number.ensures.gains

pub returns-in_err-header-clause-later : goal.returns-in_err-header-clause-later
returns-in_err-header-clause-later g c = later_both c.args.pass.now c.tip-number.new.pass c.header.new.pass c.tip-number.ensures.later c.header.ensures.later

pub returns-in_err-header-clause-err : goal.returns-in_err-header-clause-err
returns-in_err-header-clause-err g c =
    let t = c.tip-number.ensures in
    short_behind c.args.pass.now c.tip-number.new.pass c.header.new.pass State c.from_residual-in_err-header.result c.from_residual-in_err-header.ensures.1 t.later c.header.ensures.later t.gains c.header.ensures.gains

pub returns-in_err-reply-2-clause-later : goal.returns-in_err-reply-2-clause-later
returns-in_err-reply-2-clause-later g c = later_both c.args.pass.now c.tip-number.new.pass c.header.new.pass c.tip-number.ensures.later c.header.ensures.later

pub returns-in_err-reply-2-clause-err : goal.returns-in_err-reply-2-clause-err
returns-in_err-reply-2-clause-err g c =
    let t = c.tip-number.ensures in
    short_behind c.args.pass.now c.tip-number.new.pass c.header.new.pass State c.from_residual-in_err-reply-2.result c.from_residual-in_err-reply-2.ensures.1 t.later c.header.ensures.later t.gains c.header.ensures.gains
