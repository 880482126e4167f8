use Rattle.std.proofs.Common.{◌∙◌, ap, arith}
use Rattle.im_table.specs.declared.view.View.{View}
use Rattle.im_table.proofs.PassLemmas.{later_both}
use Rattle.im_store.proofs.GainLemmas.{follows_indexed, follows_self, follows_then, load_durable_follows, load_durable_saw, saw_durable_on, saw_indexed_on, shown_indexed}
use Rattle.im_store.proofs.store.Store.index.Goals as goal

-- what the steps before the end have told: the index is shown, and durable is loaded
pub returns-clause-ok : goal.returns-clause-ok
returns-clause-ok g c =
    let show = c.show-taken in
    let load = c.load_durable-durable in
    let take = c.take_to in
    let a = follows_indexed show.result c.args.pass.now show.new.pass show.ensures.later show.ensures.adds show.ensures.looks in
    let saw = saw_durable_on c.args.pass.now show.new.pass load.new.pass take.new.pass load.result a
    (load_durable_saw show.new.pass load.new.pass load.result load.ensures.table load.ensures.view load.ensures.finds.least)
    take.ensures.follows.later take.ensures.loads.0 in
    let loads = load_durable_follows show.new.pass load.new.pass load.result load.ensures.table load.ensures.view load.ensures.finds.least in
    let begun = shown_indexed show.result c.args.pass.now show.new.pass show.ensures.later show.ensures.looks show.ensures.taken.1 in (
      show.result,
      record {
        durable = load.result;
        saw = saw;
        begun = saw_indexed_on c.args.pass.now c.args.pass.now show.new.pass take.new.pass show.result (follows_self c.args.pass.now) begun
            (later_both show.new.pass load.new.pass take.new.pass loads.later take.ensures.follows.later)
            (take.ensures.loads.1 ∙ ap (λ (v : View). v.looks.indexed) load.ensures.view);
        is = omega arith;
        grows = omega (arith, show.ensures.durable, load.ensures.finds.least);
        shown = c.in_ok-take_to.ensures.taken;
      },
    )

pub returns-clause-gains : goal.returns-clause-gains
returns-clause-gains g c =
    let show = c.show-taken in
    let load = c.load_durable-durable in
    let a = follows_indexed show.result c.args.pass.now show.new.pass show.ensures.later show.ensures.adds show.ensures.looks in
    let b = follows_then 0 c.args.pass.now show.new.pass load.new.pass a (load_durable_follows show.new.pass load.new.pass load.result load.ensures.table load.ensures.view load.ensures.finds.least) in
    (follows_then 0 c.args.pass.now load.new.pass c.take_to.new.pass b c.take_to.ensures.follows).gains

pub returns-in_err-take_to-clause-gains : goal.returns-in_err-take_to-clause-gains
returns-in_err-take_to-clause-gains g c =
    let show = c.show-taken in
    let load = c.load_durable-durable in
    let a = follows_indexed show.result c.args.pass.now show.new.pass show.ensures.later show.ensures.adds show.ensures.looks in
    let b = follows_then 0 c.args.pass.now show.new.pass load.new.pass a (load_durable_follows show.new.pass load.new.pass load.result load.ensures.table load.ensures.view load.ensures.finds.least) in
    (follows_then 0 c.args.pass.now load.new.pass c.take_to.new.pass b c.take_to.ensures.follows).gains

pub returns-clause-later : goal.returns-clause-later
returns-clause-later g c =
    let show = c.show-taken in
    let load = c.load_durable-durable in
    let a = follows_indexed show.result c.args.pass.now show.new.pass show.ensures.later show.ensures.adds show.ensures.looks in
    let b = follows_then 0 c.args.pass.now show.new.pass load.new.pass a (load_durable_follows show.new.pass load.new.pass load.result load.ensures.table load.ensures.view load.ensures.finds.least) in
    (follows_then 0 c.args.pass.now load.new.pass c.take_to.new.pass b c.take_to.ensures.follows).later

pub returns-in_err-take_to-clause-later : goal.returns-in_err-take_to-clause-later
returns-in_err-take_to-clause-later g c =
    let show = c.show-taken in
    let load = c.load_durable-durable in
    let a = follows_indexed show.result c.args.pass.now show.new.pass show.ensures.later show.ensures.adds show.ensures.looks in
    let b = follows_then 0 c.args.pass.now show.new.pass load.new.pass a (load_durable_follows show.new.pass load.new.pass load.result load.ensures.table load.ensures.view load.ensures.finds.least) in
    (follows_then 0 c.args.pass.now load.new.pass c.take_to.new.pass b c.take_to.ensures.follows).later
