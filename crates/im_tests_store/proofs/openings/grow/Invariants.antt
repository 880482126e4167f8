use Rattle.im_table.specs.Passes.{IsPassOf}
use Rattle.im_tests_store.proofs.openings.grow.Given as goal

abbrev pub invariant-loop-i : goal.invariant-loop-i
invariant-loop-i g l = IsPassOf g.N.TipName.table l.pass
