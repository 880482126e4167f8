use Rattle.std.proofs.Common.{◌≡◌, ◌≤◌}
use Rattle.im_store.specs.Gains.{HasStepped}
use Rattle.im_store.proofs.store.Store.take_to.Given as goal

abbrev pub invariant-loop : goal.invariant-loop
invariant-loop g l = record {
  can : (goal.iterator-loop g).can_next l.iterator';
  finite : (goal.iterator-loop g).is_finite l.iterator';
  follows : HasStepped 0 l.initial.pass l.pass;
  durable : l.pass.view.looks.durable ≡ l.initial.pass.view.looks.durable;
  indexed : l.pass.view.looks.indexed ≡ l.initial.pass.view.looks.indexed;
  taken : (l.index.taken ≤ l.end) × (l.index.taken ≤ l.pass.view.least.indexed);
}
