use Rattle.std.proofs.Common.{◌≡◌, ◌++◌}
use Rattle.im_dealing.proofs.ScriptLemmas.{GoesWell}
use Rattle.im_dealing.specs.Gathered.{IsWholePass}
use Rattle.im_session.proofs.serve.run_phases.Given as goal

abbrev pub invariant-loop-phase : goal.invariant-loop-phase
invariant-loop-phase g l = record {
  can : (goal.iterator-loop-phase g).can_next l.phase-iterator;
  finite : (goal.iterator-loop-phase g).is_finite l.phase-iterator;
  all : l.fn.script.phases.items ≡ l.yielded ++ l.phase-iterator.rest.items;
  main : IsWholePass g.N.TipName.table l.main;
  well : GoesWell g.N.TipName.digest l.links l.initial.main l.main l.yielded (g.K.Sink.written l.initial.sink) (g.K.Sink.written l.sink) (g.K.Sink.faults l.initial.sink) (g.K.Sink.faults l.sink);
}
