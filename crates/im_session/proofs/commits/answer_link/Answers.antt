use Rattle.im_script.specs.declared.commands.Command.TheVariants.{Link}
use Rattle.im_session.proofs.ShowLemmas.{linked_answered, linked_unanswered, short_unanswered}
use Rattle.im_store.proofs.GainLemmas.{gains_before}
use Rattle.im_table.proofs.PassLemmas.{later_both}
use Rattle.im_session.proofs.commits.answer_link.Goals as goal

-- memory ran out
pub returns-in_err-link-clause-later : goal.returns-in_err-link-clause-later
returns-in_err-link-clause-later g c = later_both c.args.pass.now c.tip-number.new.pass c.link.new.pass c.tip-number.ensures.later c.link.ensures.later

pub returns-in_err-link-clause-err : goal.returns-in_err-link-clause-err
returns-in_err-link-clause-err g c =
    let t = c.tip-number.ensures in
    short_unanswered c.args.pass.now c.link.new.pass (Link c.args.count) c.from_residual.result c.from_residual.ensures.1
    (later_both c.args.pass.now c.tip-number.new.pass c.link.new.pass t.later c.link.ensures.later)
    (gains_before 0 0 c.args.pass.now c.tip-number.new.pass c.link.new.pass t.gains c.in_err-link.ensures.err)

pub returns-in_err-reply-clause-later : goal.returns-in_err-reply-clause-later
returns-in_err-reply-clause-later g c = later_both c.args.pass.now c.tip-number.new.pass c.link.new.pass c.tip-number.ensures.later c.link.ensures.later

pub returns-in_err-reply-clause-err : goal.returns-in_err-reply-clause-err
returns-in_err-reply-clause-err g c =
    let t = c.tip-number.ensures in
    let linked = c.in_ok-link.ensures.ok in
    linked_unanswered c.args.pass.now c.tip-number.new.pass c.link.new.pass c.args.count linked.0 _ c.from_residual-in_err-reply.result c.from_residual-in_err-reply.ensures.1
    t.later c.link.ensures.later t.gains linked.1 linked.2

-- it is linked
pub returns-clause-later : goal.returns-clause-later
returns-clause-later g c = later_both c.args.pass.now c.tip-number.new.pass c.link.new.pass c.tip-number.ensures.later c.link.ensures.later

pub returns-clause-ok : goal.returns-clause-ok
returns-clause-ok g c =
    let t = c.tip-number.ensures in
    let linked = c.in_ok-link.ensures.ok in
    linked_answered g.N.TipName.digest c.args.pass.now c.tip-number.new.pass c.link.new.pass c.args.count linked.0 _ (record { number = c.tip-number.result; reply = c.in_ok-reply.reply })
    t.later c.link.ensures.later t.gains linked.1 linked.2 t.durable.1 t.durable.2 c.in_ok-reply.ensures.items
