use Rattle.std.proofs.Common.{◌≡◌, ◌≤◌}
use Rattle.im_store.specs.Gains.{HasStepped}
use Rattle.im_store.proofs.store.Store.take_some.Given as goal

abbrev pub invariant-loop-k : goal.invariant-loop-k
invariant-loop-k g l = record {
  follows : HasStepped 0 l.initial.pass l.pass;
  looks : l.pass.view.looks ≡ l.initial.pass.view.looks;
  taken : l.index.taken ≡ l.k;
  known : l.k ≤ l.pass.view.least.indexed;
}
