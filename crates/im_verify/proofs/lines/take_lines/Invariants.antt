use Rattle.std.proofs.Common.{◌≡◌, ◌+◌, ◌≤◌, length}
use Rattle.im_facts.specs.Keeping.{IsLed}
use Rattle.im_verify.specs.Turns.{done}
use Rattle.im_verify.proofs.TurnLemmas.{Following}
use Rattle.im_verify.proofs.lines.take_lines.Given as goal

abbrev pub invariant-loop-rest : goal.invariant-loop-rest
invariant-loop-rest g l = record {
  following : Following (g.H.Hash32.digest l.fn.client.hash) l.fn.client.kept l.stream l.rest l.number l.refused l.client.kept
      (done (g.K.Sink.written l.fn.sink) (g.P.Keeper.kept l.fn.keeper)) (done (g.K.Sink.written l.sink) (g.P.Keeper.kept l.keeper));
  led : IsLed (g.H.Hash32.digest l.client.hash) l.client.kept;
  hash : l.client.hash ≡ l.fn.client.hash;
  few : l.number + length l.rest ≤ length l.stream;
  sink : g.K.Sink.faults l.sink ≡ g.K.Sink.faults l.fn.sink;
  keeper : g.P.Keeper.faults l.keeper ≡ g.P.Keeper.faults l.fn.keeper;
}

abbrev pub decreases-loop-rest : goal.decreases-loop-rest
decreases-loop-rest g l = length l.rest
