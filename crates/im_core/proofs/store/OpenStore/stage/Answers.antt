use Rattle.std.proofs.Common.{◌∙◌, sym}
use Rattle.im_core.specs.declared.store.OpenStore.{OpenStore}
use Rattle.im_core.proofs.CallLemmas.{stage-no, stopped-no}
use Rattle.im_core.proofs.UpLemmas.{not-allowed}
use Rattle.im_digest.specs.Digests.{Hash}
use Rattle.im_machine.specs.declared.events.Event.TheVariants as on
use Rattle.im_core.proofs.store.OpenStore.stage.Goals as goal

pub returns-then-stopped : goal.returns-then-stopped
returns-then-stopped g c m u =
    let hash : Hash = g.H.Hash32.digest c.args.hash.now in
    let s : OpenStore = c.args.self.now in
    not-allowed hash s m (on.Stage c.args.last c.args.fails) u (λ a. stopped-no hash s m u c.if-stopped.true a.0)

pub stage_first-requires-clause-step : goal.stage_first-requires-clause-step
stage_first-requires-clause-step g c = sym c.step-step.ensures ∙ c.in-Idle.is

pub stage_next-requires-clause-up : goal.stage_next-requires-clause-up
stage_next-requires-clause-up g c = (g.H.Hash32.digest c.args.hash.now, c.requires.0, c.requires.1)

pub stage_next-requires-clause-step : goal.stage_next-requires-clause-step
stage_next-requires-clause-step g c = sym c.step-step.ensures ∙ c.in-Staging.is

pub returns-in-Staging : goal.returns-in-Staging
returns-in-Staging g c m u = c.stage_next.ensures (g.H.Hash32.digest c.args.hash.now) m u

pub returns-in_default : goal.returns-in_default
returns-in_default g c m u =
    let hash : Hash = g.H.Hash32.digest c.args.hash.now in
    let s : OpenStore = c.args.self.now in
    not-allowed hash s m (on.Stage c.args.last c.args.fails) u
    (λ a. stage-no hash s m u c.args.last c.args.fails (λ at. c.in_default.not-Idle (c.step-step.ensures ∙ at)) (λ at. c.in_default.not-Staging (c.step-step.ensures ∙ at)) a)
