use Rattle.std.proofs.Common.{rules, ◌≡◌, ◌++◌, ◌∷◌, [], sym, subst, arith}
use Rattle.std.specs.List.{All}
use Rattle.std.proofs.lemmas.List.Elements.{All-push}
use Rattle.im_table.specs.Passes.{IsPassOf}
use Rattle.im_bench.proofs.sharing.passes_of.Goals as goal

-- one pass more, of weight 1
pub loop-number-preserved : goal.loop-number-preserved
loop-number-preserved g c =
    let i = c.loop-number.invariant in
    let p = c.pass in
    let all : c.push.new.self.items ≡ c.loop-number.passes.items ++ p.result ∷ [] = search rules in
    record {
      pass = p.ensures.left.0;
      weight = omega (arith, i.weight, p.ensures.left.1);
      passes = subst (All (IsPassOf g.N.TipName.table)) (sym all) (All-push (IsPassOf g.N.TipName.table) c.loop-number.passes.items p.result i.passes p.ensures.given.0);
    }
