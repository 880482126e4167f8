use Rattle.std.proofs.Common.{◌≡◌, ◌++◌}
use mathlib.Core.List.{IsPrefix}
use Rattle.im_dealing.proofs.LineLemmas.{AreRun}
use Rattle.im_dealing.specs.Runs.{start_of}
use Rattle.im_table.specs.Passes.{IsPassOf}
use Rattle.im_session.proofs.lines.run_lines.Given as goal

abbrev pub invariant-loop-line : goal.invariant-loop-line
invariant-loop-line g l = record {
  can : (goal.iterator-loop-line g).can_next l.line-iterator;
  finite : (goal.iterator-loop-line g).is_finite l.line-iterator;
  all : l.fn.lines.items ≡ l.yielded ++ l.line-iterator.rest.items;
  pass : IsPassOf g.N.TipName.table l.session.pass;
  weight : l.session.pass.view.weight ≡ 1;
  number : l.session.number ≡ l.initial.session.number;
  seen : IsPrefix l.initial.session.pass.view.seen l.session.pass.view.seen;
  run : AreRun g.N.TipName.digest (start_of l.initial.session) l.session.pass l.session.texts.items l.yielded;
}
