use Rattle.std.proofs.Common.{◌≡◌, ◌≤◌, ◌++◌, length, map}
use Rattle.std.specs.List.{All}
use Rattle.std.specs.Prelude.{vec_capacity}
use Rattle.im_dealing.proofs.GatherLemmas.{BeginsAt}
use Rattle.im_dealing.specs.Gathered.{AreHanded}
use Rattle.im_dealing.specs.Runs.{IsReady}
use Rattle.im_dealing.specs.declared.sessions.Session.{Session}
use Rattle.im_session.proofs.play.hand_out.Given as goal

abbrev pub invariant-loop-mine : goal.invariant-loop-mine
invariant-loop-mine g l = record {
  can : (goal.iterator-loop-mine g).can_next l.mine-iterator;
  finite : (goal.iterator-loop-mine g).is_finite l.mine-iterator;
  all : l.fn.lines.items ≡ l.yielded ++ l.mine-iterator.rest.items;
  number : l.number ≡ length l.yielded;
  left : AreHanded g.N.TipName.table l.initial.main l.main (length l.yielded);
  ready : All (IsReady g.N.TipName.found g.N.TipName.table) l.sessions.items;
  begins : All (BeginsAt l.initial.main) l.sessions.items;
  lines : map (λ (s : Session). s.lines.items) l.sessions.items ≡ l.yielded;
  room : length l.fn.lines.items ≤ vec_capacity l.sessions;
}
