use Rattle.std.proofs.Common.{List, ℕ, take}
use Rattle.im_model.specs.declared.transactions.Transaction.{Transaction}
use Rattle.im_session.proofs.ReadLemmas.{keys_length}
use Rattle.im_session.proofs.ShowLemmas.{got_answered, short_behind}
use Rattle.im_table.proofs.PassLemmas.{later_both}
use Rattle.im_table.specs.Histories.{history_of}
use Rattle.im_script.specs.declared.commands.Command.TheVariants.{Get}
use Rattle.im_session.proofs.reads.answer_get.Goals as goal

pub get_text-shown-requires : goal.get_text-shown-requires
get_text-shown-requires g c =
    let keys = c.in_ok-keys.ensures.keys in
    (take c.tip-number.result (history_of c.keys_at.new.pass.view.seen), keys.shows, keys_length c.keys_at.new.pass c.tip-number.result c.in_ok-keys.keys keys)

pub returns-clause-later : goal.returns-clause-later
returns-clause-later g c = later_both c.args.pass.now c.tip-number.new.pass c.keys_at.new.pass c.tip-number.ensures.later c.keys_at.ensures.later

pub returns-clause-ok : goal.returns-clause-ok
returns-clause-ok g c =
    let t = c.tip-number.ensures in
    let n : ℕ = c.tip-number.result in
    let keys = c.in_ok-keys.ensures.keys in
    let first : List Transaction = take n (history_of c.keys_at.new.pass.view.seen) in
    got_answered g.N.TipName.digest c.args.pass.now c.tip-number.new.pass c.keys_at.new.pass c.args.key.now c.args.at (record { number = n; reply = c.in_ok-reply.reply })
    t.later c.keys_at.ensures.later t.gains c.keys_at.ensures.gains t.durable.1 t.durable.2 keys.seen
    (c.in_ok-reply.ensures first keys.shows (keys_length c.keys_at.new.pass n c.in_ok-keys.keys keys))

-- memory ran out
pub returns-in_err-keys-clause-later : goal.returns-in_err-keys-clause-later
returns-in_err-keys-clause-later g c = later_both c.args.pass.now c.tip-number.new.pass c.keys_at.new.pass c.tip-number.ensures.later c.keys_at.ensures.later

pub returns-in_err-keys-clause-err : goal.returns-in_err-keys-clause-err
returns-in_err-keys-clause-err g c =
    let t = c.tip-number.ensures in
    short_behind c.args.pass.now c.tip-number.new.pass c.keys_at.new.pass (Get c.args.key.now c.args.at) c.from_residual.result c.from_residual.ensures.1 t.later c.keys_at.ensures.later t.gains c.keys_at.ensures.gains

pub returns-in_err-reply-clause-later : goal.returns-in_err-reply-clause-later
returns-in_err-reply-clause-later g c = later_both c.args.pass.now c.tip-number.new.pass c.keys_at.new.pass c.tip-number.ensures.later c.keys_at.ensures.later

pub returns-in_err-reply-clause-err : goal.returns-in_err-reply-clause-err
returns-in_err-reply-clause-err g c =
    let t = c.tip-number.ensures in
    short_behind c.args.pass.now c.tip-number.new.pass c.keys_at.new.pass (Get c.args.key.now c.args.at) c.from_residual-in_err-reply.result c.from_residual-in_err-reply.ensures.1 t.later c.keys_at.ensures.later t.gains c.keys_at.ensures.gains
