use Rattle.std.proofs.Common.{◌≡◌, drop}
use Rattle.im_sqlmodel.specs.Conditions.{name_fault}
use Rattle.im_sqlmodel.specs.Options.{first_found}
use Rattle.im_plan.proofs.selects.order_fault.Given as goal

-- those so far are columns
abbrev pub invariant-loop-term : goal.invariant-loop-term
invariant-loop-term l = first_found (λ t. name_fault l.scope t.column) (drop l.term-index l.terms) ≡ first_found (λ t. name_fault l.scope t.column) l.terms
