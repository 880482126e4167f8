use Rattle.std.proofs.Common.{◌<◌, ◌+◌}
use Rattle.std.specs.List.{All}
use Rattle.im_table.specs.Passes.{IsPassOf}
use Rattle.im_bench.proofs.sharing.passes_of.Given as goal

abbrev pub invariant-loop-number : goal.invariant-loop-number
invariant-loop-number g l = record {
  pass : IsPassOf g.N.TipName.table l.main;
  weight : l.count < l.main.view.weight + l.number;
  passes : All (IsPassOf g.N.TipName.table) l.passes.items;
}
