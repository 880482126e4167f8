use Rattle.std.proofs.Common.{All, sym, subst}
use Rattle.std.specs.List.{IsAmong}
use Rattle.im_sqlsound.proofs.TestLemmas.{test-fails, test-not}
use Rattle.im_sqlsound.proofs.settled.is_settled.Goals as goal

pub returns-then-not-are_settled : goal.returns-then-not-are_settled
returns-then-not-are_settled c =
    test-fails (λ both. test-not c.are_settled.result c.are_settled.ensures c.if-not-are_settled.true (subst (All (IsAmong c.args.shown.now)) (sym c.under.ensures) both.0))

pub returns : goal.returns
returns c = (
  λ e. (
    subst (All (IsAmong c.args.shown.now)) c.under.ensures (c.are_settled.ensures.0 c.if-not-are_settled.false),
    subst (All (IsAmong c.args.shown.now)) c.under-2.ensures (c.are_settled-2.ensures.0 e),
  ),
  λ both. c.are_settled-2.ensures.1 (subst (All (IsAmong c.args.shown.now)) (sym c.under-2.ensures) both.1),
)
