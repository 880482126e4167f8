use Rattle.std.proofs.Common.{◌∙◌, ap, refl, arith}
use Rattle.im_table.specs.declared.view.View.{View}
use Rattle.im_store.proofs.GainLemmas.{follows_self, follows_then, later_self, load_durable_follows, load_durable_saw, saw_durable_on}
use Rattle.im_store.proofs.store.Store.journal_for.Goals as goal

pub loop-look-init : goal.loop-look-init
loop-look-init g c = record { follows = follows_self c.args.pass.now; failed = refl; fewer = λ some. absurd (omega (arith, some)); placed = refl }

-- each turn is one load of the word durable
pub loop-look-preserved : goal.loop-look-preserved
loop-look-preserved g c =
    let i = c.loop-look.invariant in
    let l = c.load_durable in
    record {
      follows = follows_then 0 c.args.pass.now c.loop-look.pass l.new.pass i.follows
          (load_durable_follows c.loop-look.pass l.new.pass l.result l.ensures.table l.ensures.view l.ensures.finds.least);
      failed = ap (λ (v : View). v.looks.failed) l.ensures.view ∙ i.failed;
      fewer = λ some. record {
        durable = l.result;
        saw = saw_durable_on c.args.pass.now c.loop-look.pass l.new.pass l.new.pass l.result i.follows
            (load_durable_saw c.loop-look.pass l.new.pass l.result l.ensures.table l.ensures.view l.ensures.finds.least) (later_self l.new.pass) refl;
        fewer = omega arith;
      };
      placed = ap (λ (v : View). v.looks.placed) l.ensures.view ∙ i.placed;
    }

-- they are durable
pub returns-then-n-load_durable-clause-follows : goal.returns-then-n-load_durable-clause-follows
returns-then-n-load_durable-clause-follows g c =
    let l = c.load_durable in
    follows_then 0 c.args.pass.now c.loop-look.pass l.new.pass c.loop-look.invariant.follows
    (load_durable_follows c.loop-look.pass l.new.pass l.result l.ensures.table l.ensures.view l.ensures.finds.least)

pub returns-then-n-load_durable-clause-failed : goal.returns-then-n-load_durable-clause-failed
returns-then-n-load_durable-clause-failed g c = ap (λ (v : View). v.looks.failed) c.load_durable.ensures.view ∙ c.loop-look.invariant.failed

pub returns-then-n-load_durable-clause-placed : goal.returns-then-n-load_durable-clause-placed
returns-then-n-load_durable-clause-placed g c = ap (λ (v : View). v.looks.placed) c.load_durable.ensures.view ∙ c.loop-look.invariant.placed

-- the lock was got
pub returns-in-Some-clause-follows : goal.returns-in-Some-clause-follows
returns-in-Some-clause-follows g c =
    let l = c.load_durable in
    follows_then 0 c.args.pass.now c.loop-look.pass l.new.pass c.loop-look.invariant.follows
    (load_durable_follows c.loop-look.pass l.new.pass l.result l.ensures.table l.ensures.view l.ensures.finds.least)

pub returns-in-Some-clause-failed : goal.returns-in-Some-clause-failed
returns-in-Some-clause-failed g c = ap (λ (v : View). v.looks.failed) c.load_durable.ensures.view ∙ c.loop-look.invariant.failed

pub returns-in-Some-clause-placed : goal.returns-in-Some-clause-placed
returns-in-Some-clause-placed g c = ap (λ (v : View). v.looks.placed) c.load_durable.ensures.view ∙ c.loop-look.invariant.placed

pub returns-in-Some-clause-some : goal.returns-in-Some-clause-some
returns-in-Some-clause-some g c =
    let l = c.load_durable in
    record {
      durable = l.result;
      saw = saw_durable_on c.args.pass.now c.loop-look.pass l.new.pass l.new.pass l.result c.loop-look.invariant.follows
          (load_durable_saw c.loop-look.pass l.new.pass l.result l.ensures.table l.ensures.view l.ensures.finds.least) (later_self l.new.pass) refl;
      fewer = omega arith;
    }

-- the lock was waited for
pub returns-clause-some : goal.returns-clause-some
returns-clause-some g c = c.loop-look.invariant.fewer (omega arith)
