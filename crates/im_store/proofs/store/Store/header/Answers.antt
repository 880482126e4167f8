use Rattle.std.proofs.Common.{arith}
use Rattle.im_octet.proofs.Common.{if-err}
use Rattle.im_store.specs.Reading.{ExplainsHeader}
use Rattle.im_store.specs.declared.errors.ProveError.TheVariants as proves
use Rattle.im_store.proofs.GainLemmas.{follows_self, follows_then, load_durable_follows, load_durable_saw, saw_durable_on}
use Rattle.im_store.proofs.store.Store.header.Goals as goal

-- there is no transaction 0
pub returns-then-k-eq0-clause-later : goal.returns-then-k-eq0-clause-later
returns-then-k-eq0-clause-later g c = (follows_self c.args.pass.now).later

pub returns-then-k-eq0-clause-gains : goal.returns-then-k-eq0-clause-gains
returns-then-k-eq0-clause-gains g c = (follows_self c.args.pass.now).gains

-- fewer are durable
pub returns-then-durable-k-clause-later : goal.returns-then-durable-k-clause-later
returns-then-durable-k-clause-later g c =
    let l = c.load_durable-durable in
    (load_durable_follows c.args.pass.now l.new.pass l.result l.ensures.table l.ensures.view l.ensures.finds.least).later

pub returns-then-durable-k-clause-gains : goal.returns-then-durable-k-clause-gains
returns-then-durable-k-clause-gains g c =
    let l = c.load_durable-durable in
    (load_durable_follows c.args.pass.now l.new.pass l.result l.ensures.table l.ensures.view l.ensures.finds.least).gains

pub returns-then-durable-k-clause-err : goal.returns-then-durable-k-clause-err
returns-then-durable-k-clause-err g c =
    let l = c.load_durable-durable in
    record {
      some = omega arith;
      order = omega arith;
      saw = load_durable_saw c.args.pass.now l.new.pass l.result l.ensures.table l.ensures.view l.ensures.finds.least;
      beyond = omega arith;
    }

-- memory ran out
pub returns-in_err-copy_header-clause-err : goal.returns-in_err-copy_header-clause-err
returns-in_err-copy_header-clause-err g c =
    if-err (λ e. ExplainsHeader c.args.pass.now c.copy_header.new.pass c.args.k e) c.from_residual.result proves.Memory c.from_residual.ensures.1 tt

pub returns-in_err-copy_header-clause-later : goal.returns-in_err-copy_header-clause-later
returns-in_err-copy_header-clause-later g c =
    let l = c.load_durable-durable in
    (follows_then 0 c.args.pass.now l.new.pass c.copy_header.new.pass
    (load_durable_follows c.args.pass.now l.new.pass l.result l.ensures.table l.ensures.view l.ensures.finds.least) c.copy_header.ensures.follows).later

pub returns-in_err-copy_header-clause-gains : goal.returns-in_err-copy_header-clause-gains
returns-in_err-copy_header-clause-gains g c =
    let l = c.load_durable-durable in
    (follows_then 0 c.args.pass.now l.new.pass c.copy_header.new.pass
    (load_durable_follows c.args.pass.now l.new.pass l.result l.ensures.table l.ensures.view l.ensures.finds.least) c.copy_header.ensures.follows).gains

-- it is copied
pub returns-clause-later : goal.returns-clause-later
returns-clause-later g c =
    let l = c.load_durable-durable in
    (follows_then 0 c.args.pass.now l.new.pass c.copy_header.new.pass
    (load_durable_follows c.args.pass.now l.new.pass l.result l.ensures.table l.ensures.view l.ensures.finds.least) c.copy_header.ensures.follows).later

pub returns-clause-gains : goal.returns-clause-gains
returns-clause-gains g c =
    let l = c.load_durable-durable in
    (follows_then 0 c.args.pass.now l.new.pass c.copy_header.new.pass
    (load_durable_follows c.args.pass.now l.new.pass l.result l.ensures.table l.ensures.view l.ensures.finds.least) c.copy_header.ensures.follows).gains

pub returns-clause-ok : goal.returns-clause-ok
returns-clause-ok g c =
    let l = c.load_durable-durable in
    record {
      durable = record {
        durable = l.result;
        saw = saw_durable_on c.args.pass.now c.args.pass.now l.new.pass c.copy_header.new.pass l.result (follows_self c.args.pass.now)
            (load_durable_saw c.args.pass.now l.new.pass l.result l.ensures.table l.ensures.view l.ensures.finds.least)
            c.copy_header.ensures.follows.later c.copy_header.ensures.loads.0;
        some = omega arith;
        order = omega arith;
        within = omega arith;
        seen = c.copy_header.ensures.seen;
      };
      header_is = c.in_ok-copy_header.ensures.header;
    }
