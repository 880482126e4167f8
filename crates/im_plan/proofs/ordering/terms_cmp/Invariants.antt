use Rattle.std.proofs.Common.{◌≡◌, drop}
use Rattle.im_sqlmodel.specs.Selects.{terms_cmp}
use Rattle.im_plan.proofs.ordering.terms_cmp.Given as goal

-- the terms so far tie
abbrev pub invariant-loop-term : goal.invariant-loop-term
invariant-loop-term l = terms_cmp l.scope (drop l.term-index l.terms) l.a l.b ≡ terms_cmp l.scope l.terms l.a l.b
