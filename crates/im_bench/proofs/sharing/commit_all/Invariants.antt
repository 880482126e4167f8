use Rattle.im_table.specs.Passes.{IsPassOf}
use Rattle.im_bench.proofs.sharing.commit_all.Given as goal

abbrev pub invariant-loop-number : goal.invariant-loop-number
invariant-loop-number g l = IsPassOf g.N.TipName.table l.pass
