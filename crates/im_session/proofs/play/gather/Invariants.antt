use Rattle.std.proofs.Common.{◌≡◌, ◌≤◌, ◌++◌, length}
use Rattle.std.specs.Prelude.{vec_capacity}
use Rattle.im_dealing.specs.Gathered.{AreGathered}
use Rattle.im_table.specs.Passes.{IsPassOf}
use Rattle.im_session.proofs.play.gather.Given as goal

abbrev pub invariant-loop-session : goal.invariant-loop-session
invariant-loop-session g l = record {
  can : (goal.iterator-loop-session g).can_next l.session-iterator;
  finite : (goal.iterator-loop-session g).is_finite l.session-iterator;
  all : l.fn.sessions.items ≡ l.yielded ++ l.session-iterator.rest.items;
  main : IsPassOf g.N.TipName.table l.main;
  number : l.number ≡ length l.yielded;
  gathered : AreGathered g.N.TipName.table l.initial.main l.main l.yielded l.ended.items;
  room : length l.fn.sessions.items ≤ vec_capacity l.ended;
}
