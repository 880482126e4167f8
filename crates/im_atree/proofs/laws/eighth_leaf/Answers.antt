use Rattle.std.proofs.Common.{◌≡◌, ◌+◌, arith, ap}
use Rattle.im_levels.specs.Counts.{whole}
use Rattle.im_levels.proofs.LevelLemmas.{eighth-leaf}
use Rattle.im_atree.proofs.laws.eighth_leaf.Goals as goal

pub returns : goal.returns
returns g c =
    let before : whole c.args.tree.now.size ≡ whole 7 = ap (λ n. whole n) c.requires in
    let after : whole (c.args.tree.now.size + 1) ≡ whole 8 = ap (λ n. whole (n + 1)) c.requires in
    omega (arith, c.append_steps.ensures.cost, eighth-leaf)
