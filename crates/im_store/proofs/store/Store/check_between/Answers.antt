use Rattle.std.proofs.Common.{arith}
use Rattle.im_store.proofs.GainLemmas.{follows_self, load_durable_follows, load_durable_saw}
use Rattle.im_store.proofs.store.Store.check_between.Goals as goal

-- they aren't in order
pub returns-then-s-eq0-clause-follows : goal.returns-then-s-eq0-clause-follows
returns-then-s-eq0-clause-follows g c = follows_self c.args.pass.now

-- the greater isn't durable
pub returns-then-durable-t-clause-follows : goal.returns-then-durable-t-clause-follows
returns-then-durable-t-clause-follows g c =
    let l = c.load_durable-durable in
    load_durable_follows c.args.pass.now l.new.pass l.result l.ensures.table l.ensures.view l.ensures.finds.least

pub returns-then-durable-t-clause-err : goal.returns-then-durable-t-clause-err
returns-then-durable-t-clause-err g c =
    let l = c.load_durable-durable in
    record {
      some = omega arith;
      order = omega arith;
      saw = load_durable_saw c.args.pass.now l.new.pass l.result l.ensures.table l.ensures.view l.ensures.finds.least;
      beyond = omega arith;
    }

-- both are
pub returns-clause-follows : goal.returns-clause-follows
returns-clause-follows g c =
    let l = c.load_durable-durable in
    load_durable_follows c.args.pass.now l.new.pass l.result l.ensures.table l.ensures.view l.ensures.finds.least

pub returns-clause-ok : goal.returns-clause-ok
returns-clause-ok g c =
    let l = c.load_durable-durable in
    record {
      durable = l.result;
      saw = load_durable_saw c.args.pass.now l.new.pass l.result l.ensures.table l.ensures.view l.ensures.finds.least;
      some = omega arith;
      order = omega arith;
      within = omega arith;
    }
