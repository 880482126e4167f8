use Rattle.std.proofs.Common.{refl, sym, subst, arith}
use Rattle.im_statement_cases.specs.Sessions.{IsSession}
use Rattle.im_statement_cases.proofs.session.Session.new.Goals as goal

pub invariant_of-result : goal.invariant_of-result
invariant_of-result c =
    subst (λ txs. IsSession txs c.new-2.result) (sym c.new.ensures.items)
    (record { history = record { few = omega arith; follow = tt }; trees = refl; index = c.new-2.ensures })
