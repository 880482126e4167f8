use Rattle.std.proofs.Common.{◌∙◌, refl, ap, inl, inr}
use Rattle.std.proofs.lemmas.Bool.{iff_false}
use Rattle.im_model.specs.Trees.{node_string}
use Rattle.im_pathmove.specs.declared.carried.Carried.TheVariants.{Pair}
use Rattle.im_pathmove.proofs.walks.kept_or_pair.Goals as goal

pub returns-then-are_same : goal.returns-then-are_same
returns-then-are_same c = inl (c.are_same.ensures.0 c.if-are_same.true, refl)

pub returns : goal.returns
returns c = inr (
  λ same. iff_false c.are_same.ensures c.if-are_same.false same,
  ap (λ x. Pair x c.in_ok-y.y) c.in_ok-x.ensures ∙ ap (λ y. Pair (node_string c.args.ours.left c.args.ours.right) y) c.in_ok-y.ensures,
)
