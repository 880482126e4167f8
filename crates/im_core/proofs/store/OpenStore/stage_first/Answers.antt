use Rattle.std.proofs.Common.{◌<◌, ◌∙◌, refl, arith, Some}
use Rattle.std.proofs.lemmas.Result.{IfOk-weaker}
use Rattle.im_core.specs.declared.store.OpenStore.{OpenStore}
use Rattle.im_core.proofs.StageLemmas.{first-no, first-staged, idle-first}
use Rattle.im_core.proofs.UpLemmas.{not-allowed, placed-count}
use Rattle.im_digest.specs.Digests.{Hash}
use Rattle.im_machine.specs.Machines.{fresh, Machine}
use Rattle.im_machine.specs.declared.events.Event.TheVariants as on
use Rattle.im_core.proofs.store.OpenStore.stage_first.Goals as goal

pub returns-then-last-durable : goal.returns-then-last-durable
returns-then-last-durable g c m u =
    let hash : Hash = g.H.Hash32.digest c.args.hash.now in
    let s : OpenStore = c.args.self.now in
    not-allowed hash s m (on.Stage c.args.last c.args.fails) u
    (first-no hash s m c.args.last c.args.fails u c.requires.step (λ b. omega (arith, b.0, c.if-last-durable.true, c.durable-durable.ensures)))

pub returns-then-placed-last : goal.returns-then-placed-last
returns-then-placed-last g c m u =
    let hash : Hash = g.H.Hash32.digest c.args.hash.now in
    let s : OpenStore = c.args.self.now in
    not-allowed hash s m (on.Stage c.args.last c.args.fails) u
    (first-no hash s m c.args.last c.args.fails u c.requires.step (λ b. omega (arith, b.1, c.if-placed-last.true, c.len-placed.ensures)))

pub write-requires-clause-up : goal.write-requires-clause-up
write-requires-clause-up g c =
    let m : Machine = c.requires.up.0 in
    let begun = c.in_ok-begin.ensures.begun m c.requires.up.1 in
    (g.H.Hash32.digest c.args.hash.now, record m { progress = Some (fresh begun.0) }, begun.2)

pub write-requires-clause-going : goal.write-requires-clause-going
write-requires-clause-going g c = c.begin.ensures.going ∙ c.requires.going

pub write-requires-clause-step : goal.write-requires-clause-step
write-requires-clause-step g c = c.in_ok-begin.ensures.step

pub returns : goal.returns
returns g c m u =
    let hash : Hash = g.H.Hash32.digest c.args.hash.now in
    let s : OpenStore = c.args.self.now in
    let begun = c.in_ok-begin.ensures.begun m u in
    let none = (idle-first hash s m u c.requires.going c.requires.step).0 in
    let less : m.durable < c.args.last = omega (arith, c.if-last-durable.false, c.durable-durable.ensures, u.durable) in
    IfOk-weaker c.write.result _ _
    (λ output next. first-staged hash s c.write.new.self m c.args.last c.args.fails begun.0 output u c.requires.going none less
    (omega (arith, c.if-placed-last.false, c.len-placed.ensures, placed-count hash s m u)) begun.1 next)
    (c.write.ensures hash (record m { progress = Some (fresh begun.0) }) (fresh begun.0) begun.2 refl)
