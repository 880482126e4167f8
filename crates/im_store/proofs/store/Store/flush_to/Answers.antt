use Rattle.std.proofs.Common.{◌≤◌, ◌∙◌, ℕ, length, refl, ap, subst, arith}
use Rattle.im_octet.proofs.Common.{if-err}
use Rattle.im_table.proofs.FrontLemmas.{prefix_length}
use Rattle.im_store.specs.Gains.{HasStepped}
use Rattle.im_store.specs.Settling.{ExplainsHalt}
use Rattle.im_store.proofs.CommitLemmas.{halt_on}
use Rattle.im_store.proofs.FlushLemmas.{passed_going, passed_told}
use Rattle.im_store.proofs.GainLemmas.{follows_self, follows_then, saw_failures_on}
use Rattle.im_store.proofs.store.Store.flush_to.Goals as goal

pub loop-init : goal.loop-init
loop-init g c = record {
  can = tt;
  finite = tt;
  follows = follows_self c.args.pass.now;
  words = c.requires.words;
  failed = refl;
  durable = refl;
  placed = λ last. last;
}

-- what isn't durable yet is placed
pub flush-requires-clause-some : goal.flush-requires-clause-some
flush-requires-clause-some g c =
    let i = c.loop.invariant in
    omega (arith, c.requires.seen, prefix_length c.args.pass.now.view.seen c.loop.pass.view.seen i.follows.later.seen, c.durable.ensures, ap (λ k. k.durable) c.journal.ensures)

pub loop-preserved : goal.loop-preserved
loop-preserved g c =
    let i = c.loop.invariant in
    let f = c.flush in
    let seen : c.args.n ≤ length c.loop.pass.view.seen =
    omega (arith, c.requires.seen, prefix_length c.args.pass.now.view.seen c.loop.pass.view.seen i.follows.later.seen) in
    record {
      can = tt;
      finite = tt;
      follows = follows_then 0 c.args.pass.now c.loop.pass f.new.pass i.follows c.in_ok-flush.ensures.follows;
      words = c.in_ok-flush.ensures.words;
      failed = c.in_ok-flush.ensures.failed (λ h. h) ∙ i.failed;
      durable = f.ensures.durable ∙ i.durable;
      placed = λ last. f.ensures.placed c.args.n seen (i.placed last);
    }

-- a batch failed
pub returns-in_err-flush-clause-follows : goal.returns-in_err-flush-clause-follows
returns-in_err-flush-clause-follows g c =
    subst (λ (k : ℕ). HasStepped k c.args.pass.now c.flush.new.pass) (passed_told (Unit {0}) _ c.in_err-flush.field-0.0 c.from_residual.result c.from_residual.ensures.1)
    (follows_then _ c.args.pass.now c.loop.pass c.flush.new.pass c.loop.invariant.follows c.in_err-flush.ensures.follows)

pub returns-in_err-flush-clause-err : goal.returns-in_err-flush-clause-err
returns-in_err-flush-clause-err g c =
    if-err (λ cause. ExplainsHalt c.args.pass.now c.flush.new.pass cause) c.from_residual.result c.in_err-flush.field-0.0 c.from_residual.ensures.1
    (halt_on c.args.pass.now c.loop.pass c.flush.new.pass c.in_err-flush.field-0.0 c.loop.invariant.follows.later.failed
    (λ f saw. saw_failures_on c.args.pass.now c.loop.pass c.flush.new.pass f c.loop.invariant.follows.looks saw) c.in_err-flush.ensures.err)

pub returns-in_err-flush-clause-failed : goal.returns-in_err-flush-clause-failed
returns-in_err-flush-clause-failed g c going =
    c.in_err-flush.ensures.failed (passed_going (Unit {0}) _ c.in_err-flush.field-0.0 c.from_residual.result c.from_residual.ensures.1 going) ∙ c.loop.invariant.failed

pub returns-in_err-flush-clause-durable : goal.returns-in_err-flush-clause-durable
returns-in_err-flush-clause-durable g c = c.flush.ensures.durable ∙ c.loop.invariant.durable

pub returns-in_err-flush-clause-placed : goal.returns-in_err-flush-clause-placed
returns-in_err-flush-clause-placed g c last =
    c.flush.ensures.placed c.args.n
    (omega (arith, c.requires.seen, prefix_length c.args.pass.now.view.seen c.loop.pass.view.seen c.loop.invariant.follows.later.seen))
    (c.loop.invariant.placed last)

-- they are durable
pub returns-then-n-durable-clause-ok : goal.returns-then-n-durable-clause-ok
returns-then-n-durable-clause-ok g c = omega (arith, c.loop.invariant.words.0, c.durable.ensures, ap (λ k. k.durable) c.journal.ensures)

pub returns-then-n-durable-clause-failed : goal.returns-then-n-durable-clause-failed
returns-then-n-durable-clause-failed g c going = c.loop.invariant.failed

pub returns-then-n-durable-clause-placed : goal.returns-then-n-durable-clause-placed
returns-then-n-durable-clause-placed g c last = c.loop.invariant.placed last
