use Rattle.std.proofs.Common.{◌∙◌, sym}
use Rattle.im_core.specs.declared.store.OpenStore.{OpenStore}
use Rattle.im_core.proofs.CallLemmas.{settle-no, stopped-no}
use Rattle.im_core.proofs.UpLemmas.{not-allowed}
use Rattle.im_machine.specs.declared.events.Event.TheVariants as on
use Rattle.im_core.proofs.store.OpenStore.settle.Goals as goal

pub returns-then-stopped : goal.returns-then-stopped
returns-then-stopped c hash m u =
    let s : OpenStore = c.args.self.now in
    not-allowed hash s m (on.Settle c.args.fails) u (λ a. stopped-no hash s m u c.if-stopped.true a.0)

pub settle_gate-requires-clause-step : goal.settle_gate-requires-clause-step
settle_gate-requires-clause-step c = sym c.step-step.ensures ∙ c.in-Gated.is

pub returns-in_default : goal.returns-in_default
returns-in_default c hash m u =
    let s : OpenStore = c.args.self.now in
    not-allowed hash s m (on.Settle c.args.fails) u (λ a. settle-no hash s m u c.args.fails (λ at. c.in_default.not-Gated (c.step-step.ensures ∙ at)) a)
