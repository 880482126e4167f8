use Rattle.std.proofs.Common.{IfOk, ◌≡◌, ℕ, ℤ, FitsSigned, w64, rules, sym, subst}
use Rattle.std.proofs.lemmas.Int.{to_z-of_z}
use Rattle.im_core.specs.Parts.{Answers}
use Rattle.im_core.specs.declared.store.OpenStore.{OpenStore}
use Rattle.im_core.proofs.OpenLemmas.{open-no}
use Rattle.im_core.proofs.UpLemmas.{not-allowed}
use Rattle.im_digest.specs.Digests.{Hash}
use Rattle.im_machine.specs.Machines.{Machine}
use Rattle.im_machine.specs.declared.events.Event.{Event}
use Rattle.im_machine.specs.declared.events.Event.TheVariants as on
use Rattle.im_machine.specs.declared.outputs.Output.{Output}
use Rattle.im_machine.specs.declared.outputs.Output.TheVariants as says
use Rattle.im_machine.specs.declared.questions.KeyQuestion.{KeyQuestion}
use Rattle.im_machine.specs.declared.questions.ProofQuestion.{ProofQuestion}
use Rattle.im_tx.specs.Asked.{Asked}
use Rattle.std.specs.Prelude.{Result}
use Rattle.im_core.proofs.store.OpenStore.answer.Goals as goal

-- what is answered of an event, by its variant
by : {E : Type 0} (hash : Hash) (m : Machine) (r : Result Output E) (now : OpenStore) (event is : Event) → is ≡ event → IfOk r (λ output. Answers hash m event output now) → IfOk r (λ output. Answers hash m is output now)
by hash m r now event is same answer = subst (λ (e : Event). IfOk r (λ output. Answers hash m e output now)) (sym same) answer

-- a time that is passed on is that time, whichever session asks
by-place : {E : Type 0} (hash : Hash) (m : Machine) (r : Result Output E) (now : OpenStore) (event : Event) (session : ℕ) (ts passed : ℤ) (asked : Asked) → event ≡ on.Place session ts asked
    → passed ≡ ts → ((s : ℕ) → IfOk r (λ output. Answers hash m (on.Place s passed asked) output now)) → IfOk r (λ output. Answers hash m event output now)
by-place hash m r now event session ts passed asked is same answer =
    by hash m r now (on.Place session ts asked) event is (subst (λ (t : ℤ). IfOk r (λ output. Answers hash m (on.Place session t asked) output now)) same (answer session))

-- whichever session is told of a number, asks for keys, or asks for a proof
by-ack : {E : Type 0} (hash : Hash) (m : Machine) (r : Result Output E) (now : OpenStore) (event : Event) (session number : ℕ) → event ≡ on.Ack session number
    → ((s : ℕ) → IfOk r (λ output. Answers hash m (on.Ack s number) output now)) → IfOk r (λ output. Answers hash m event output now)
by-ack hash m r now event session number is answer = by hash m r now (on.Ack session number) event is (answer session)

by-snap : {E : Type 0} (hash : Hash) (m : Machine) (r : Result Output E) (now : OpenStore) (event : Event) (session number : ℕ) (question : KeyQuestion)
    → event ≡ on.Snap session number question → ((s : ℕ) → IfOk r (λ output. Answers hash m (on.Snap s number question) output now))
    → IfOk r (λ output. Answers hash m event output now)
by-snap hash m r now event session number question is answer = by hash m r now (on.Snap session number question) event is (answer session)

by-prove : {E : Type 0} (hash : Hash) (m : Machine) (r : Result Output E) (now : OpenStore) (event : Event) (session : ℕ) (question : ProofQuestion)
    → event ≡ on.Prove session question → ((s : ℕ) → IfOk r (λ output. Answers hash m (on.Prove s question) output now))
    → IfOk r (λ output. Answers hash m event output now)
by-prove hash m r now event session question is answer = by hash m r now (on.Prove session question) event is (answer session)

pub returns-in-Place : goal.returns-in-Place
returns-in-Place g c m u =
    let fits : FitsSigned w64 c.in-Place.ts = search rules in
    by-place (g.H.Hash32.digest c.args.hash.now) m c.place.result c.place.new.self c.args.event.now _ c.in-Place.ts _ _ c.in-Place.is (to_z-of_z w64 c.in-Place.ts fits)
    (λ s. c.place.ensures m s u)

pub returns-in-Stage : goal.returns-in-Stage
returns-in-Stage g c m u = by (g.H.Hash32.digest c.args.hash.now) m c.stage.result c.stage.new.self _ c.args.event.now c.in-Stage.is (c.stage.ensures m u)

pub returns-in-Seal : goal.returns-in-Seal
returns-in-Seal g c m u = by (g.H.Hash32.digest c.args.hash.now) m c.seal.result c.seal.new.self _ c.args.event.now c.in-Seal.is (c.seal.ensures (g.H.Hash32.digest c.args.hash.now) m u)

pub returns-in-Gate : goal.returns-in-Gate
returns-in-Gate g c m u = by (g.H.Hash32.digest c.args.hash.now) m c.gate.result c.gate.new.self _ c.args.event.now c.in-Gate.is (c.gate.ensures (g.H.Hash32.digest c.args.hash.now) m u)

pub returns-in-Settle : goal.returns-in-Settle
returns-in-Settle g c m u = by (g.H.Hash32.digest c.args.hash.now) m c.settle.result c.settle.new.self _ c.args.event.now c.in-Settle.is (c.settle.ensures (g.H.Hash32.digest c.args.hash.now) m u)

pub returns-in-Ack : goal.returns-in-Ack
returns-in-Ack g c m u =
    let hash : Hash = g.H.Hash32.digest c.args.hash.now in
    by-ack hash m c.ack.result c.args.self.now c.args.event.now _ _ c.in-Ack.is (λ s. c.ack.ensures hash m s u)

pub returns-in-Fault : goal.returns-in-Fault
returns-in-Fault g c m u =
    subst (λ (e : Event). Answers (g.H.Hash32.digest c.args.hash.now) m e c.fault.result c.fault.new.self) (sym c.in-Fault.is) (c.fault.ensures (g.H.Hash32.digest c.args.hash.now) m u)

pub returns-in-Link : goal.returns-in-Link
returns-in-Link g c m u = by (g.H.Hash32.digest c.args.hash.now) m c.link.result c.link.new.self _ c.args.event.now c.in-Link.is (c.link.ensures m u)

pub returns-in-Index : goal.returns-in-Index
returns-in-Index g c m u = by (g.H.Hash32.digest c.args.hash.now) m c.take_next.result c.take_next.new.self _ c.args.event.now c.in-Index.is (c.take_next.ensures (g.H.Hash32.digest c.args.hash.now) m u)

pub returns-in-Load : goal.returns-in-Load
returns-in-Load g c m u =
    subst (λ (e : Event). Answers (g.H.Hash32.digest c.args.hash.now) m e c.load.result c.args.self.now) (sym c.in-Load.is) (c.load.ensures (g.H.Hash32.digest c.args.hash.now) m _ u)

pub returns-in-Snap : goal.returns-in-Snap
returns-in-Snap g c m u =
    let hash : Hash = g.H.Hash32.digest c.args.hash.now in
    by-snap hash m c.snap.result c.args.self.now c.args.event.now _ _ _ c.in-Snap.is (λ s. c.snap.ensures hash m s u)

pub returns-in-Prove : goal.returns-in-Prove
returns-in-Prove g c m u = by-prove (g.H.Hash32.digest c.args.hash.now) m c.prove.result c.args.self.now c.args.event.now _ _ c.in-Prove.is (λ s. c.prove.ensures m s u)

pub returns-in-Crash : goal.returns-in-Crash
returns-in-Crash g c m u = absurd (c.requires.own (_, c.in-Crash.is))

pub returns-in-Open : goal.returns-in-Open
returns-in-Open g c m u =
    let hash : Hash = g.H.Hash32.digest c.args.hash.now in
    subst (λ (e : Event). Answers hash m e says.NotAllowed c.args.self.now) (sym c.in-Open.is) (not-allowed hash c.args.self.now m on.Open u (open-no hash m u.up))
