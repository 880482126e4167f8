use Rattle.std.proofs.Common.{◌∙◌, refl, ap, arith}
use Rattle.im_table.proofs.FrontLemmas.{prefix_length}
use Rattle.im_store.proofs.GainLemmas.{follows_self, follows_then}
use Rattle.im_store.proofs.store.Store.begin.Goals as goal

pub loop-halvings-init : goal.loop-halvings-init
loop-halvings-init g c = record { follows = follows_self c.args.pass.now; same = refl; failed = refl; durable = refl; placed = λ some. absurd (omega (arith, some)) }

pub begin_part-requires-clause-going : goal.begin_part-requires-clause-going
begin_part-requires-clause-going g c = ap (λ k. k.failures) c.loop-halvings.invariant.same ∙ c.requires.going

pub begin_part-requires-clause-idle : goal.begin_part-requires-clause-idle
begin_part-requires-clause-idle g c = ap (λ k. k.batch.step) c.loop-halvings.invariant.same ∙ c.requires.idle

pub begin_part-requires-clause-some : goal.begin_part-requires-clause-some
begin_part-requires-clause-some g c =
    let i = c.loop-halvings.invariant in
    omega (arith, c.requires.some, ap (λ k. k.durable) i.same, prefix_length c.args.pass.now.view.seen c.loop-halvings.pass.view.seen i.follows.later.seen)

-- memory ran out: the journal is as it was
pub loop-halvings-preserved : goal.loop-halvings-preserved
loop-halvings-preserved g c =
    let i = c.loop-halvings.invariant in
    let p = c.begin_part in
    record {
      follows = follows_then 0 c.args.pass.now c.loop-halvings.pass p.new.pass i.follows p.ensures.follows;
      same = c.in-Err-Memory.ensures.err ∙ i.same;
      failed = p.ensures.failed ∙ i.failed;
      durable = p.ensures.durable ∙ i.durable;
      placed = λ some. omega (arith, p.ensures.placed, prefix_length c.args.pass.now.view.seen c.loop-halvings.pass.view.seen i.follows.later.seen);
    }

-- a batch is begun
pub returns-in_default-clause-follows : goal.returns-in_default-clause-follows
returns-in_default-clause-follows g c =
    follows_then 0 c.args.pass.now c.loop-halvings.pass c.begin_part.new.pass c.loop-halvings.invariant.follows c.begin_part.ensures.follows

pub returns-in_default-clause-failed : goal.returns-in_default-clause-failed
returns-in_default-clause-failed g c = c.begin_part.ensures.failed ∙ c.loop-halvings.invariant.failed

pub returns-in_default-clause-durable : goal.returns-in_default-clause-durable
returns-in_default-clause-durable g c = c.begin_part.ensures.durable ∙ c.loop-halvings.invariant.durable

pub returns-in_default-clause-placed : goal.returns-in_default-clause-placed
returns-in_default-clause-placed g c =
    let i = c.loop-halvings.invariant in
    omega (arith, c.begin_part.ensures.placed, prefix_length c.args.pass.now.view.seen c.loop-halvings.pass.view.seen i.follows.later.seen)

-- there is memory for none
pub returns-clause-placed : goal.returns-clause-placed
returns-clause-placed g c = c.loop-halvings.invariant.placed (omega arith)

pub returns-clause-going : goal.returns-clause-going
returns-clause-going g c = ap (λ k. k.failures) c.loop-halvings.invariant.same ∙ c.requires.going
