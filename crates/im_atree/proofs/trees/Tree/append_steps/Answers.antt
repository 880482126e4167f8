use Rattle.std.proofs.Common.{◌≡◌, ℕ, List, length, take, ap, subst}
use Rattle.im_levels.specs.Leveled.{Stored}
use Rattle.im_atree.proofs.trees.Tree.append_steps.Goals as goal

pub returns-clause-front : goal.returns-clause-front
returns-clause-front g c =
    subst (λ (d : List (List ℕ)). take (length d) c.add_leaf.new.digests ≡ d) (ap (λ (v : Stored). v.digests) c.self.view_is) c.in_ok-add_leaf.ensures.front
