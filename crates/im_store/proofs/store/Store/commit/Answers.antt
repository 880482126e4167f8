use Rattle.std.proofs.Common.{rules, ◌∙◌, ap, arith}
use Rattle.im_table.specs.declared.view.AllLooks.{AllLooks}
use Rattle.im_table.proofs.PassLemmas.{later_both}
use Rattle.im_store.proofs.GainLemmas.{looks_placed}
use Rattle.im_store.proofs.ReceiptLemmas.{receipt_gains, receipt_is, receipt_why, refusal_gains}
use Rattle.im_store.proofs.PlaceLemmas.{reach_within, tells_explains}
use Rattle.im_store.proofs.store.Store.commit.Goals as goal

pub acknowledge-requires-clause-some : goal.acknowledge-requires-clause-some
acknowledge-requires-clause-some g c = omega (arith, c.in-Ok.ensures.placed.above)

pub acknowledge-requires-clause-seen : goal.acknowledge-requires-clause-seen
acknowledge-requires-clause-seen g c = c.in-Ok.ensures.placed.within

pub refuse-requires-clause-seen : goal.refuse-requires-clause-seen
refuse-requires-clause-seen g c = reach_within g.N.TipName.time c.args.prepared c.args.pass.now c.place.new.pass c.in-Err.unplaced c.in-Err.ensures.refused

-- it was placed
pub returns-in-Ok-clause-later : goal.returns-in-Ok-clause-later
returns-in-Ok-clause-later g c = later_both c.args.pass.now c.place.new.pass c.acknowledge.new.pass c.place.ensures.later c.acknowledge.ensures.follows.later

pub returns-in-Ok-clause-gains : goal.returns-in-Ok-clause-gains
returns-in-Ok-clause-gains g c =
    receipt_gains c.args.pass.now c.place.new.pass c.acknowledge.new.pass c.in-Ok.id c.acknowledge.result (search rules) c.acknowledge.ensures.follows
    g.N.TipName.digest c.acknowledge.ensures.ok c.acknowledge.ensures.err

pub returns-in-Ok-clause-ok : goal.returns-in-Ok-clause-ok
returns-in-Ok-clause-ok g c =
    receipt_is g.N.TipName.digest g.N.TipName.time c.args.prepared c.args.pass.now c.place.new.pass c.acknowledge.new.pass c.in-Ok.id c.acknowledge.result
    c.in-Ok.ensures.placed c.acknowledge.ensures.follows.later c.acknowledge.ensures.ok

pub returns-in-Ok-clause-err : goal.returns-in-Ok-clause-err
returns-in-Ok-clause-err g c =
    let looks = c.place.ensures.looks in
    receipt_why g.N.TipName.time c.args.prepared c.args.pass.now c.place.new.pass c.acknowledge.new.pass c.in-Ok.id c.acknowledge.result
    c.in-Ok.ensures.placed c.acknowledge.ensures.follows.later c.place.ensures.later.failed (looks_placed c.args.pass.now.view c.place.new.pass.view.looks looks.0 looks.1) c.acknowledge.ensures.err

pub returns-in-Ok-clause-failed : goal.returns-in-Ok-clause-failed
returns-in-Ok-clause-failed g c going = c.acknowledge.ensures.failed going ∙ ap (λ (l : AllLooks). l.failed) c.place.ensures.looks.1

-- it wasn't
pub returns-in-Err-clause-later : goal.returns-in-Err-clause-later
returns-in-Err-clause-later g c = later_both c.args.pass.now c.place.new.pass c.refuse.new.pass c.place.ensures.later c.refuse.ensures.follows.later

pub returns-in-Err-clause-gains : goal.returns-in-Err-clause-gains
returns-in-Err-clause-gains g c =
    refusal_gains c.args.pass.now c.place.new.pass c.refuse.new.pass c.refuse.result (search rules) c.refuse.ensures.follows c.refuse.ensures.none

pub returns-in-Err-clause-err : goal.returns-in-Err-clause-err
returns-in-Err-clause-err g c =
    let looks = c.place.ensures.looks in
    tells_explains g.N.TipName.time c.args.prepared c.args.pass.now c.place.new.pass c.refuse.new.pass c.in-Err.unplaced c.refuse.result c.in-Err.ensures.refused
    c.place.ensures.later c.refuse.ensures.follows.later (looks_placed c.args.pass.now.view c.place.new.pass.view.looks looks.0 looks.1) c.refuse.ensures.told

pub returns-in-Err-clause-failed : goal.returns-in-Err-clause-failed
returns-in-Err-clause-failed g c going = c.refuse.ensures.failed going ∙ ap (λ (l : AllLooks). l.failed) c.place.ensures.looks.1
