use Rattle.std.proofs.Common.{◌≡◌, ◌∙◌, ◌++◌, ◌∷◌, [], ◌+◌, List, length, take, refl, sym, ap, subst, arith}
use Rattle.std.proofs.lemmas.List.{take_all}
use Rattle.im_core.proofs.RunLemmas.{events-more, run-count, run-onward}
use Rattle.im_digest.specs.Digests.{Hash}
use Rattle.im_machine.specs.Runs.{Run}
use Rattle.im_machine.specs.declared.events.Event.{Event}
use Rattle.im_machine.specs.declared.outputs.Output.{Output}
use Rattle.im_core.proofs.run.run_on.Goals as goal

pub step-requires : goal.step-requires
step-requires g c = let so_far = c.loop-event.invariant c.requires.0 c.requires.1 in (so_far.0, so_far.2)

pub loop-event-init : goal.loop-event-init
loop-event-init g c m is =
    (m, subst (λ (l : List Output). Run (g.H.Hash32.digest c.args.hash.now) m [] l m) (sym c.in_ok-outputs.ensures.items) refl, is)

pub loop-event-preserved : goal.loop-event-preserved
loop-event-preserved g c m is =
    let hash : Hash = g.H.Hash32.digest c.args.hash.now in
    let events : List Event = c.args.events.now in
    let so_far = c.loop-event.invariant m is in
    let one = c.in_ok-output.ensures so_far.0 so_far.2 in
    let output : Output = c.in_ok-output.output in
    let longer = run-onward hash m (take c.loop-event.event-index events) c.loop-event.outputs.items so_far.0 one.0 c.event-item.result output so_far.1 one.1 in
    let more : take (c.loop-event.event-index + 1) events ≡ take c.loop-event.event-index events ++ c.event-item.result ∷ [] =
    events-more events c.loop-event.event-index c.event-item.result c.loop-event-test.true c.event-item.is in (
      one.0,
      subst (λ (l : List Output). Run hash m (take (c.loop-event.event-index + 1) events) l one.0) (sym c.in_ok-push.ensures.items)
          (subst (λ (l : List Event). Run hash m l (c.loop-event.outputs.items ++ output ∷ []) one.0) (sym more) longer),
      one.2,
    )

pub returns-clause-run : goal.returns-clause-run
returns-clause-run g c m is =
    let hash : Hash = g.H.Hash32.digest c.args.hash.now in
    let so_far = c.loop-event.invariant m is in
    let all : take c.loop-event.event-index c.args.events.now ≡ c.args.events.now = take_all c.loop-event.event-index c.args.events.now (omega (arith, c.loop-event-test.false)) in
    (so_far.0, subst (λ (l : List Event). Run hash m l c.loop-event.outputs.items so_far.0) all so_far.1)

pub returns-clause-one_each : goal.returns-clause-one_each
returns-clause-one_each g c =
    let hash : Hash = g.H.Hash32.digest c.args.hash.now in
    let so_far = c.loop-event.invariant c.requires.0 c.requires.1 in
    let all : take c.loop-event.event-index c.args.events.now ≡ c.args.events.now = take_all c.loop-event.event-index c.args.events.now (omega (arith, c.loop-event-test.false)) in
    run-count hash c.requires.0 (take c.loop-event.event-index c.args.events.now) c.loop-event.outputs.items so_far.0 so_far.1 ∙ ap (λ (l : List Event). length l) all
