use Rattle.im_dealing.specs.Runs.{IsHelper}
use Rattle.im_session.proofs.phase.link_on.Given as goal

abbrev pub invariant-loop : goal.invariant-loop
invariant-loop g l = record {
  can : (goal.iterator-loop g).can_next l.iterator';
  finite : (goal.iterator-loop g).is_finite l.iterator';
  helper : IsHelper g.N.TipName.table l.pass;
}
