use Rattle.std.proofs.Common.{ap}
use Rattle.im_table.specs.declared.view.View.{View}
use Rattle.im_store.proofs.GainLemmas.{load_durable_gains, load_durable_later, load_durable_saw}
use Rattle.im_store.proofs.store.Store.tip.Goals as goal

pub returns-clause-later : goal.returns-clause-later
returns-clause-later g c =
    let l = c.load_durable.ensures in
    load_durable_later c.args.pass.now c.load_durable.new.pass c.load_durable.result l.table l.view l.finds.least

pub returns-clause-gains : goal.returns-clause-gains
returns-clause-gains g c =
    let l = c.load_durable.ensures in
    load_durable_gains c.args.pass.now c.load_durable.new.pass c.load_durable.result l.table l.view l.finds.least

pub returns-clause-durable : goal.returns-clause-durable
returns-clause-durable g c =
    let l = c.load_durable.ensures in (
      load_durable_saw c.args.pass.now c.load_durable.new.pass c.load_durable.result l.table l.view l.finds.least,
      ap (λ (v : View). v.least.durable) l.view,
      l.finds.least,
    )
