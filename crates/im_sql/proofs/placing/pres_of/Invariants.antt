use Rattle.std.proofs.Common.{◌≡◌, map}
use Rattle.im_draft.specs.declared.preconditions.Pre.TheVariants.{Since}
use Rattle.im_sql.proofs.placing.pres_of.Given as goal

abbrev pub invariant-loop-key : goal.invariant-loop-key
invariant-loop-key l = l.pres.items ≡ map (λ key. Since key l.n) l.yielded
