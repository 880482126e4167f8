use Rattle.std.proofs.Common.{◌≡◌, ◌≤◌}
use Rattle.im_store.specs.Gains.{HasStepped}
use Rattle.im_store.proofs.store.Store.flush_to.Given as goal

abbrev pub invariant-loop : goal.invariant-loop
invariant-loop g l = record {
  can : (goal.iterator-loop g).can_next l.iterator';
  finite : (goal.iterator-loop g).is_finite l.iterator';
  follows : HasStepped 0 l.initial.pass l.pass;
  words : (l.pass.view.least.durable ≡ l.journal.durable) × (l.pass.view.least.failed ≡ l.journal.failures);
  failed : l.pass.view.looks.failed ≡ l.initial.pass.view.looks.failed;
  durable : l.pass.view.looks.durable ≡ l.initial.pass.view.looks.durable;
  placed : l.n ≤ l.initial.pass.view.looks.placed.last → l.n ≤ l.pass.view.looks.placed.last;
}
