use Rattle.std.proofs.Common.{IfOk, sym, subst}
use Rattle.im_core.specs.Cores.{Follows}
use Rattle.im_digest.specs.Digests.{Hash}
use Rattle.im_machine.specs.declared.events.Event.{Event}
use Rattle.im_core.proofs.cores.step.Goals as goal

pub crash-requires : goal.crash-requires
crash-requires g c = (g.H.Hash32.digest c.args.hash.now, c.requires.0, c.requires.1)

pub answer-requires-clause-no_crash : goal.answer-requires-clause-no_crash
answer-requires-clause-no_crash g c = λ crash. c.in_default.not-Crash crash.0 crash.1

pub answer-requires-clause-no_opening : goal.answer-requires-clause-no_opening
answer-requires-clause-no_opening g c = c.in_default.not-Open

pub returns-in-Crash : goal.returns-in-Crash
returns-in-Crash g c m is =
    let hash : Hash = g.H.Hash32.digest c.args.hash.now in
    subst (λ (e : Event). IfOk c.crash.result (λ output. Follows hash m e output c.crash.new.core)) (sym c.in-Crash.is) (c.crash.ensures hash m is)

pub returns-in-Open : goal.returns-in-Open
returns-in-Open g c m is =
    let hash : Hash = g.H.Hash32.digest c.args.hash.now in
    subst (λ (e : Event). IfOk c.reopen.result (λ output. Follows hash m e output c.reopen.new.core)) (sym c.in-Open.is) (c.reopen.ensures m is)
