use Rattle.std.proofs.Common.{ℕ, List, length, take, ap, ◌∙◌}
use Rattle.im_levels.specs.Leveled.{Stored, stored}
use Rattle.im_atree.proofs.trees.Tree.cut.Goals as goal

pub invariant_of-self : goal.invariant_of-self
invariant_of-self c =
    ap (λ (l : List (List ℕ)). length l) c.cut.ensures ∙ ap (λ (v : Stored). length (take c.args.count v.digests)) c.self.view_is ∙ c.requires

pub returns : goal.returns
returns c = ap (λ (l : List (List ℕ)). stored l c.args.size) (c.cut.ensures ∙ ap (λ (v : Stored). take c.args.count v.digests) c.self.view_is)
