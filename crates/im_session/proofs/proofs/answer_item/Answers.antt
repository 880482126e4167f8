use Rattle.std.proofs.Common.{◌≤◌, ◌∙◌, ap, subst}
use Rattle.im_dealing.proofs.ReadLemmas.{none-said, some-said}
use Rattle.im_report.specs.Replies.{no_entry_reply}
use Rattle.im_session.proofs.AnswerLemmas.{item_refused, item_told, looked, no_item_told}
use Rattle.im_store.proofs.GainLemmas.{gains_before, gains_same, later_self}
use Rattle.im_store.specs.Reading.{ExplainsEntry}
use Rattle.im_store.specs.declared.errors.ItemError.{ItemError}
use Rattle.im_script.specs.declared.commands.Command.TheVariants.{Item}
use Rattle.im_session.proofs.ShowLemmas.{short_behind, short_unanswered, shown_unanswered}
use Rattle.im_table.proofs.PassLemmas.{later_both}
use Rattle.im_session.proofs.proofs.answer_item.Goals as goal

-- the numbers are refused
pub returns-in-Some-clause-ok : goal.returns-in-Some-clause-ok
returns-in-Some-clause-ok g c =
    let t = c.tip-number.ensures in
    item_refused g.N.TipName.digest c.args.pass.now c.tip-number.new.pass c.tip-number.new.pass c.args.t c.args.index c.unwrap_or-state.result c.args.under (record { number = c.tip-number.result; reply = c.in-Some.reply })
    (looked c.args.pass.now c.tip-number.new.pass c.tip-number.new.pass c.tip-number.result t.later t.gains t.durable (later_self c.tip-number.new.pass) (gains_same c.tip-number.new.pass))
    c.unwrap_or-state.ensures (some-said _ _ c.in-Some.reply c.in-Some.is c.in_ok-reply.ensures.refused)

-- the entry is there
pub returns-in_ok-reply-in-Ok-clause-ok : goal.returns-in_ok-reply-in-Ok-clause-ok
returns-in_ok-reply-in-Ok-clause-ok g c =
    let t = c.tip-number.ensures in
    let ordered = none-said ((1 ≤ c.args.t) × (c.args.t ≤ c.unwrap_or-state.result) × (c.unwrap_or-state.result ≤ c.tip-number.result)) _ c.in_default.is c.in_ok-reply.ensures.taken in
    let shown = c.in_ok-reply-in-Ok.ensures in
    item_told g.N.TipName.digest c.args.pass.now c.tip-number.new.pass c.item.new.pass c.args.t c.args.index c.unwrap_or-state.result c.args.under (record { number = c.tip-number.result; reply = c.in_ok-reply-in-Ok.reply }) c.in-Ok.proved
    (looked c.args.pass.now c.tip-number.new.pass c.item.new.pass c.tip-number.result t.later t.gains t.durable c.item.ensures.later c.item.ensures.gains) c.unwrap_or-state.ensures ordered.2 c.in-Ok.ensures.ok shown.text shown.again

-- it isn't
pub returns-in_ok-reply-in-Err-NoEntry-clause-ok : goal.returns-in_ok-reply-in-Err-NoEntry-clause-ok
returns-in_ok-reply-in-Err-NoEntry-clause-ok g c =
    let t = c.tip-number.ensures in
    let ordered = none-said ((1 ≤ c.args.t) × (c.args.t ≤ c.unwrap_or-state.result) × (c.unwrap_or-state.result ≤ c.tip-number.result)) _ c.in_default.is c.in_ok-reply.ensures.taken in
    let fewer = subst (λ (e : ItemError). ExplainsEntry c.tip-number.new.pass c.item.new.pass c.args.t c.args.index c.unwrap_or-state.result e) c.in-Err-NoEntry.field-0-is c.in-Err-NoEntry.ensures.err in
    no_item_told g.N.TipName.digest c.args.pass.now c.tip-number.new.pass c.item.new.pass c.args.t c.args.index c.unwrap_or-state.result c.args.under (record { number = c.tip-number.result; reply = c.in_ok-reply-in-Err-NoEntry.reply }) c.in-Err-NoEntry.width
    (looked c.args.pass.now c.tip-number.new.pass c.item.new.pass c.tip-number.result t.later t.gains t.durable c.item.ensures.later c.item.ensures.gains) c.unwrap_or-state.ensures ordered.2 fewer (c.in_ok-reply-in-Err-NoEntry.ensures ∙ ap no_entry_reply c.from.ensures)

-- memory ran out
pub returns-in_err-reply-clause-err : goal.returns-in_err-reply-clause-err
returns-in_err-reply-clause-err g c = short_unanswered c.args.pass.now c.tip-number.new.pass (Item c.args.t c.args.index c.args.under) c.from_residual.result c.from_residual.ensures.1 c.tip-number.ensures.later c.tip-number.ensures.gains

pub returns-in_err-reply-in-Ok-clause-later : goal.returns-in_err-reply-in-Ok-clause-later
returns-in_err-reply-in-Ok-clause-later g c = later_both c.args.pass.now c.tip-number.new.pass c.item.new.pass c.tip-number.ensures.later c.item.ensures.later

pub returns-in_err-reply-in-Ok-clause-err : goal.returns-in_err-reply-in-Ok-clause-err
returns-in_err-reply-in-Ok-clause-err g c =
    let t = c.tip-number.ensures in
    short_behind c.args.pass.now c.tip-number.new.pass c.item.new.pass (Item c.args.t c.args.index c.args.under) c.from_residual-in_err-reply-in-Ok.result c.from_residual-in_err-reply-in-Ok.ensures.1 t.later c.item.ensures.later t.gains c.item.ensures.gains

pub returns-in_err-reply-in-Err-NoEntry-clause-later : goal.returns-in_err-reply-in-Err-NoEntry-clause-later
returns-in_err-reply-in-Err-NoEntry-clause-later g c = later_both c.args.pass.now c.tip-number.new.pass c.item.new.pass c.tip-number.ensures.later c.item.ensures.later

pub returns-in_err-reply-in-Err-NoEntry-clause-err : goal.returns-in_err-reply-in-Err-NoEntry-clause-err
returns-in_err-reply-in-Err-NoEntry-clause-err g c =
    let t = c.tip-number.ensures in
    short_behind c.args.pass.now c.tip-number.new.pass c.item.new.pass (Item c.args.t c.args.index c.args.under) c.from_residual-in_err-reply-in-Err-NoEntry.result c.from_residual-in_err-reply-in-Err-NoEntry.ensures.1 t.later c.item.ensures.later t.gains c.item.ensures.gains

pub returns-in-Err-Memory-clause-later : goal.returns-in-Err-Memory-clause-later
returns-in-Err-Memory-clause-later g c = later_both c.args.pass.now c.tip-number.new.pass c.item.new.pass c.tip-number.ensures.later c.item.ensures.later

pub returns-in-Err-Memory-clause-err : goal.returns-in-Err-Memory-clause-err
returns-in-Err-Memory-clause-err g c =
    let t = c.tip-number.ensures in
    shown_unanswered c.args.pass.now c.item.new.pass (Item c.args.t c.args.index c.args.under) (later_both c.args.pass.now c.tip-number.new.pass c.item.new.pass t.later c.item.ensures.later)
    (gains_before 0 0 c.args.pass.now c.tip-number.new.pass c.item.new.pass t.gains c.item.ensures.gains)

-- what is shown is behind both calls
pub returns-in_ok-reply-in-Ok-clause-later : goal.returns-in_ok-reply-in-Ok-clause-later
returns-in_ok-reply-in-Ok-clause-later g c = later_both c.args.pass.now c.tip-number.new.pass c.item.new.pass c.tip-number.ensures.later c.item.ensures.later

pub returns-in_ok-reply-in-Err-NoEntry-clause-later : goal.returns-in_ok-reply-in-Err-NoEntry-clause-later
returns-in_ok-reply-in-Err-NoEntry-clause-later g c = later_both c.args.pass.now c.tip-number.new.pass c.item.new.pass c.tip-number.ensures.later c.item.ensures.later
