use Rattle.std.proofs.Common.{◌≡◌, ◌<◌}
use Rattle.im_store.specs.Gains.{HasStepped}
use Rattle.im_store.specs.Loads.{SawFewer}
use Rattle.im_store.proofs.store.Store.journal_for.Given as goal

abbrev pub invariant-loop-look : goal.invariant-loop-look
invariant-loop-look g l = record {
  follows : HasStepped 0 l.initial.pass l.pass;
  failed : l.pass.view.looks.failed ≡ l.initial.pass.view.looks.failed;
  fewer : 0 < l.look → SawFewer l.initial.pass l.pass l.n;
  placed : l.pass.view.looks.placed ≡ l.initial.pass.view.looks.placed;
}
