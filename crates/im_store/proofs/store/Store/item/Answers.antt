use Rattle.std.proofs.Common.{◌∙◌, arith}
use Rattle.im_octet.proofs.Common.{if-err}
use Rattle.im_store.specs.Errors.{item_error}
use Rattle.im_store.specs.Reading.{ExplainsEntry}
use Rattle.im_store.specs.declared.errors.ItemError.TheVariants as items
use Rattle.im_store.proofs.GainLemmas.{follows_then}
use Rattle.im_store.proofs.ProveLemmas.{durable_on, entry_explained, known_durable}
use Rattle.im_store.proofs.store.Store.item.Goals as goal

-- the numbers are refused
pub returns-in_err-check_between-clause-later : goal.returns-in_err-check_between-clause-later
returns-in_err-check_between-clause-later g c = c.check_between.ensures.follows.later

pub returns-in_err-check_between-clause-gains : goal.returns-in_err-check_between-clause-gains
returns-in_err-check_between-clause-gains g c = c.check_between.ensures.follows.gains

pub returns-in_err-check_between-clause-err : goal.returns-in_err-check_between-clause-err
returns-in_err-check_between-clause-err g c =
    if-err (λ e. ExplainsEntry c.args.pass.now c.check_between.new.pass c.args.t c.args.i c.args.s e) c.from_residual.result (item_error c.in_err-check_between.field-0.0)
    c.from_residual.ensures.1
    (entry_explained c.args.pass.now c.check_between.new.pass c.args.t c.args.i c.args.s c.in_err-check_between.field-0.0 c.in_err-check_between.ensures.err)

pub width_of-width-requires-clause-some : goal.width_of-width-requires-clause-some
width_of-width-requires-clause-some g c = c.in_ok-check_between.ensures.ok.some

pub width_of-width-requires-clause-durable : goal.width_of-width-requires-clause-durable
width_of-width-requires-clause-durable g c =
    omega (arith, c.in_ok-check_between.ensures.ok.order, known_durable c.args.pass.now c.check_between.new.pass c.args.t c.args.s c.in_ok-check_between.ensures.ok)

-- it has fewer entries
pub returns-then-i-width-clause-later : goal.returns-then-i-width-clause-later
returns-then-i-width-clause-later g c =
    let w = c.width_of-width in
    (follows_then 0 c.args.pass.now c.check_between.new.pass w.new.pass c.check_between.ensures.follows w.ensures.follows).later

pub returns-then-i-width-clause-gains : goal.returns-then-i-width-clause-gains
returns-then-i-width-clause-gains g c =
    let w = c.width_of-width in
    (follows_then 0 c.args.pass.now c.check_between.new.pass w.new.pass c.check_between.ensures.follows w.ensures.follows).gains

pub returns-then-i-width-clause-err : goal.returns-then-i-width-clause-err
returns-then-i-width-clause-err g c =
    let w = c.width_of-width in
    let ok = c.in_ok-check_between.ensures.ok in
    record {
      durable = durable_on c.args.pass.now c.check_between.new.pass w.new.pass c.args.t c.args.s ok w.ensures.follows w.ensures.loads
          (omega (arith, w.ensures.seen, known_durable c.args.pass.now c.check_between.new.pass c.args.t c.args.s ok));
      width_is = w.ensures.width;
      fewer = omega arith;
    }

pub entry_of-requires-clause-some : goal.entry_of-requires-clause-some
entry_of-requires-clause-some g c = c.in_ok-check_between.ensures.ok.some

pub entry_of-requires-clause-order : goal.entry_of-requires-clause-order
entry_of-requires-clause-order g c = c.in_ok-check_between.ensures.ok.order

pub entry_of-requires-clause-durable : goal.entry_of-requires-clause-durable
entry_of-requires-clause-durable g c =
    let w = c.width_of-width in
    let ok = c.in_ok-check_between.ensures.ok in
    let known = known_durable c.args.pass.now c.check_between.new.pass c.args.t c.args.s ok in
    (omega (arith, known, w.ensures.follows.later.durable), omega (arith, known, ok.order, w.ensures.seen))

pub entry_of-requires-clause-index : goal.entry_of-requires-clause-index
entry_of-requires-clause-index g c = omega (arith, c.width_of-width.ensures.width)

-- memory ran out
pub returns-in_err-entry_of-clause-err : goal.returns-in_err-entry_of-clause-err
returns-in_err-entry_of-clause-err g c =
    if-err (λ e. ExplainsEntry c.args.pass.now c.entry_of.new.pass c.args.t c.args.i c.args.s e) c.from_residual-in_err-entry_of.result items.Memory
    c.from_residual-in_err-entry_of.ensures.1 tt

pub returns-in_err-entry_of-clause-later : goal.returns-in_err-entry_of-clause-later
returns-in_err-entry_of-clause-later g c =
    let w = c.width_of-width in
    (follows_then 0 c.args.pass.now w.new.pass c.entry_of.new.pass
    (follows_then 0 c.args.pass.now c.check_between.new.pass w.new.pass c.check_between.ensures.follows w.ensures.follows) c.entry_of.ensures.follows).later

pub returns-in_err-entry_of-clause-gains : goal.returns-in_err-entry_of-clause-gains
returns-in_err-entry_of-clause-gains g c =
    let w = c.width_of-width in
    (follows_then 0 c.args.pass.now w.new.pass c.entry_of.new.pass
    (follows_then 0 c.args.pass.now c.check_between.new.pass w.new.pass c.check_between.ensures.follows w.ensures.follows) c.entry_of.ensures.follows).gains

-- it is proved
pub returns-clause-later : goal.returns-clause-later
returns-clause-later g c =
    let w = c.width_of-width in
    (follows_then 0 c.args.pass.now w.new.pass c.entry_of.new.pass
    (follows_then 0 c.args.pass.now c.check_between.new.pass w.new.pass c.check_between.ensures.follows w.ensures.follows) c.entry_of.ensures.follows).later

pub returns-clause-gains : goal.returns-clause-gains
returns-clause-gains g c =
    let w = c.width_of-width in
    (follows_then 0 c.args.pass.now w.new.pass c.entry_of.new.pass
    (follows_then 0 c.args.pass.now c.check_between.new.pass w.new.pass c.check_between.ensures.follows w.ensures.follows) c.entry_of.ensures.follows).gains

pub returns-clause-ok : goal.returns-clause-ok
returns-clause-ok g c =
    let w = c.width_of-width in
    let e = c.entry_of in
    let entry = c.in_ok-entry_of.ensures.entry in
    record {
      durable = durable_on c.args.pass.now c.check_between.new.pass e.new.pass c.args.t c.args.s c.in_ok-check_between.ensures.ok
          (follows_then 0 c.check_between.new.pass w.new.pass e.new.pass w.ensures.follows e.ensures.follows) (e.ensures.loads ∙ w.ensures.loads) e.ensures.seen;
      within = e.ensures.index;
      dual_is = entry.dual_is;
      entry_is = entry.entry_is;
      index_is = entry.index_is;
      path_is = entry.path_is;
    }
