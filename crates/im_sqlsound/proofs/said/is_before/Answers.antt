use Rattle.std.proofs.Common.{ℕ, List, refl, ap, ◌∙◌}
use Rattle.std.specs.Cmp.Lexicographic.{lists_agrees}
use Rattle.std.specs.Ordering.{is_lt, is_some_and, nat_cmp}
use Rattle.im_sqltype.specs.Orders.{octets_cmp}
use Rattle.im_sqlsound.proofs.said.is_before.Goals as goal

pub returns : goal.returns
returns c =
    c.lt.ensures ∙ ap (is_some_and is_lt) (lists_agrees {R = nat_cmp} (λ x y. refl) c.as_slice.result.now c.args.key.now)
    ∙ ap (λ (k : List ℕ). is_lt (octets_cmp k c.args.key.now)) c.as_slice.ensures
