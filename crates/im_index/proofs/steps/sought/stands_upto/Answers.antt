use Rattle.std.proofs.Common.{nat_le, ap, ◌∙◌}
use Rattle.std.specs.Cmp.Lexicographic.{slice_cmp}
use Rattle.std.specs.Ordering.{nat_cmp}
use Rattle.im_index.specs.Marks.{upto_by}
use Rattle.im_index.proofs.steps.sought.stands_upto.Goals as goal

pub returns-in-Less : goal.returns-in-Less
returns-in-Less c =
    ap (λ o. upto_by o (nat_le c.args.version.now.tx c.args.n)) (c.in-Less.ensures ∙ ap (λ k. slice_cmp nat_cmp k c.args.key.now) c.as_slice.ensures)

pub returns-in-Equal : goal.returns-in-Equal
returns-in-Equal c =
    ap (λ o. upto_by o (nat_le c.args.version.now.tx c.args.n)) (c.in-Equal.ensures ∙ ap (λ k. slice_cmp nat_cmp k c.args.key.now) c.as_slice.ensures)

pub returns-in-Greater : goal.returns-in-Greater
returns-in-Greater c =
    ap (λ o. upto_by o (nat_le c.args.version.now.tx c.args.n)) (c.in-Greater.ensures ∙ ap (λ k. slice_cmp nat_cmp k c.args.key.now) c.as_slice.ensures)
