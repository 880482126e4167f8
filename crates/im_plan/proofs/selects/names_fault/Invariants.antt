use Rattle.std.proofs.Common.{◌≡◌, drop}
use Rattle.im_sqlmodel.specs.Conditions.{name_fault}
use Rattle.im_sqlmodel.specs.Options.{first_found}
use Rattle.im_plan.proofs.selects.names_fault.Given as goal

-- those so far are columns
abbrev pub invariant-loop-name : goal.invariant-loop-name
invariant-loop-name l = first_found (name_fault l.scope) (drop l.name-index l.names) ≡ first_found (name_fault l.scope) l.names
