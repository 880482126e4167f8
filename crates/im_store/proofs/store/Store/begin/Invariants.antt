use Rattle.std.proofs.Common.{◌≡◌, ◌≤◌, ◌<◌, length}
use Rattle.im_store.specs.Gains.{HasStepped}
use Rattle.im_store.proofs.store.Store.begin.Given as goal

abbrev pub invariant-loop-halvings : goal.invariant-loop-halvings
invariant-loop-halvings g l = record {
  follows : HasStepped 0 l.initial.pass l.pass;
  same : l.journal ≡ l.initial.journal;
  failed : l.pass.view.looks.failed ≡ l.initial.pass.view.looks.failed;
  durable : l.pass.view.looks.durable ≡ l.initial.pass.view.looks.durable;
  placed : 0 < l.halvings → length l.initial.pass.view.seen ≤ l.pass.view.looks.placed.last;
}
