-- Steps and runs.
use Rattle.std.proofs.Common.{◌≡◌, ◌≤◌, ◌++◌, ◌∷◌, ◌∙◌, [], ℕ, suc, List, length, take, All, true, false, Bool, refl, sym, ap, subst, arith, inl, inr, Option, Some, None}
use Rattle.std.proofs.lemmas.List.{take-append-le, take-take}
use Rattle.im_digest.specs.Digests.{Hash, GivesDigests}
use Rattle.im_disk.specs.declared.calls.Call.{Call}
use Rattle.im_machine.specs.Allowed.{Allows, MayCall}
use Rattle.im_machine.specs.Machines.{fresh, start, Machine, Progress}
use Rattle.im_machine.specs.Runs.{Run}
use Rattle.im_machine.specs.Steps.{Calls, Does, Gates, Places, Seals, Settles, Stages, Steps, Writes}
use Rattle.im_machine.specs.declared.events.Event.{Event}
use Rattle.im_machine.specs.declared.events.Event.TheVariants as on
use Rattle.im_machine.specs.declared.outputs.Output.{Output}
use Rattle.im_machine.specs.declared.outputs.Output.TheVariants as tells
use Rattle.im_machine.specs.declared.words.Word.{Word}
use Rattle.im_machine.specs.declared.words.Word.TheVariants.{Placed, Durable, Linked, Indexed, Failed}
use Rattle.im_machine_laws.specs.Events.{IsEvent}
use Rattle.im_machine_laws.specs.Reached.{IsReached}
use Rattle.im_machine_laws.proofs.DeviceLemmas.{sound-gate, sound-seal, sound-settle, sound-stage}
use Rattle.im_machine_laws.proofs.OpenLemmas.{front-is, sound-open, sound-start, IsFront}
use Rattle.im_machine_laws.proofs.PlaceLemmas.{history-more, sound-place}
use Rattle.im_machine_laws.proofs.Sound.{IsHeld, IsSound}
use Rattle.im_machine_laws.proofs.SoundLemmas.{sound-crash, sound-fault, sound-index, sound-link, sound-load}
use Rattle.im_model.specs.declared.transactions.Transaction.{Transaction}
use Rattle.im_versions.specs.Admits.{place_refusal}
use Rattle.im_versions.specs.declared.refusals.PlaceError.{PlaceError}

-- a journal that is as far as the machine, while its disk may be called
held-of : (hash : Hash) (m : Machine) → IsSound hash m → MayCall m → IsHeld hash m
held-of hash m s may = s.held may.up may.going

-- what an allowed event does keeps what holds
sound-does : (hash : Hash) (m next : Machine) (event : Event) (output : Output) → GivesDigests hash → IsSound hash m → IsEvent event → Allows hash m event → Does hash m event output next
    → IsSound hash next
sound-does hash m next (on.Place session ts asked) output gives s e may does =
    let tx : Transaction = record { ts = ts; entries = asked.entries; bl = m.linked } in
    sound-place hash m next tx (place_refusal m.placed asked.pres) output s may (omega arith) (history-more hash m ts asked s e.0 e.1) does
sound-does hash m next (on.Stage last fails) output gives s e may does =
    let h = held-of hash m s may.0 in sound-stage hash m next last fails m.progress h.0 output s may.0.up h.1 may.1 does
sound-does hash m next (on.Seal fails) output gives s e may does =
    let h = held-of hash m s may.0 in sound-seal hash m next fails m.progress h.0 output s may.0.up refl h.1 may.1 does
sound-does hash m next (on.Gate fails) output gives s e may does =
    let h = held-of hash m s may.0 in sound-gate hash m next fails m.progress h.0 output s may.0.up refl h.1 may.1 does
sound-does hash m next (on.Settle fails) output gives s e may does =
    let h = held-of hash m s may.0 in sound-settle hash m next fails m.progress h.0 output s may.0.up refl h.1 may.1 does
sound-does hash m next (on.Ack session number) output gives s e may does = subst (IsSound hash) (sym does.1) s
sound-does hash m next on.Fault output gives s e may does = subst (IsSound hash) (sym does.1) (sound-fault hash m _ s may)
sound-does hash m next on.Link output gives s e may does = subst (IsSound hash) (sym does.1) (sound-link hash m s may.1)
sound-does hash m next on.Index output gives s e may does = subst (IsSound hash) (sym does.1) (sound-index hash m s may.1)
sound-does hash m next (on.Load session word) output gives s e may does = subst (IsSound hash) (sym does.1) (sound-load hash m session word s)
sound-does hash m next (on.Snap session number question) output gives s e may does = subst (IsSound hash) (sym does.1) s
sound-does hash m next (on.Prove session question) output gives s e may does = subst (IsSound hash) (sym does.1) s
sound-does hash m next (on.Crash image) output gives s e may does = subst (IsSound hash) (sym does.1) (sound-crash hash m image s may.2)
sound-does hash m next on.Open output gives s e may does = subst (IsSound hash) (sym does.3) (sound-open hash m does.0 gives s may.0 does.1)

-- so does each step
pub sound-step : (hash : Hash) (m next : Machine) (event : Event) (output : Output) → GivesDigests hash → IsSound hash m → IsEvent event → Steps hash m event output next → IsSound hash next
sound-step hash m next event output gives s e (inl is) = sound-does hash m next event output gives s e is.0 is.1
sound-step hash m next event output gives s e (inr denied) = subst (IsSound hash) (sym denied.2) s

-- and each run
pub sound-run : (hash : Hash) (m : Machine) (events : List Event) (outputs : List Output) (end : Machine) → GivesDigests hash → IsSound hash m → All IsEvent events → Run hash m events outputs end
    → IsSound hash end
sound-run hash m [] [] end gives s each run = subst (IsSound hash) (sym run) s
sound-run hash m [] (o ∷ outputs) end gives s each run = absurd run
sound-run hash m (e ∷ events) [] end gives s each run = absurd run
sound-run hash m (e ∷ events) (o ∷ outputs) end gives s each run =
    sound-run hash run.0 events outputs end gives (sound-step hash m run.0 e o gives s (each 0 e (omega arith)) run.1) (λ i d less. each (suc i) d (omega (arith, less))) run.2

-- and every machine that events lead to has it
pub sound-reached : (hash : Hash) (m : Machine) → GivesDigests hash → IsReached hash m → IsSound hash m
sound-reached hash m gives r = sound-run hash start r.events r.outputs m gives (sound-start hash gives) r.each r.run

-- what is durable isn't less behind, and its transactions are the same
pub record Stays (m next : Machine) : Type 0 where
  pub more : m.durable ≤ next.durable
  pub same : take m.durable next.placed ≡ take m.durable m.placed

pub stays-same : (m : Machine) → Stays m m
stays-same m = record { more = omega arith; same = refl }

stays-as : (m a next : Machine) → next ≡ a → Stays m a → Stays m next
stays-as m a next is stays = subst (Stays m) (sym is) stays

stays-placed : (hash : Hash) (m next : Machine) (tx : Transaction) (why : Option PlaceError) (output : Output) → m.durable ≤ length m.placed → Places hash m tx why output next → Stays m next
stays-placed hash m next tx None output within does =
    stays-as m (record m { placed = m.placed ++ tx ∷ [] }) next does.1 (record { more = omega arith; same = take-append-le m.durable m.placed (tx ∷ []) within })
stays-placed hash m next tx (Some why) output within does = stays-as m m next does.1 (stays-same m)

stays-called : (call : Call) (fails : Bool) (m at onward next : Machine) (output : Output) → at.durable ≡ m.durable → at.placed ≡ m.placed → m.durable ≤ onward.durable → onward.placed ≡ m.placed
    → Calls call fails at onward output next → Stays m next
stays-called call true m at onward next output durable placed more onward_placed does =
    subst (Stays m) (sym does.1) (record { more = omega (arith, durable); same = ap (λ (l : List Transaction). take m.durable l) placed })
stays-called call false m at onward next output durable placed more onward_placed does =
    subst (Stays m) (sym does.1) (record { more = more; same = ap (λ (l : List Transaction). take m.durable l) onward_placed })

stays-written : (m at next : Machine) (fails : Bool) (p : Progress) (output : Output) → at ≡ m → Writes at fails p output next → Stays m next
stays-written m at next fails p output is does =
    let w : Writes m fails p output next = subst (λ (x : Machine). Writes x fails p output next) is does in
    stays-called _ fails m _ _ next output refl refl (omega arith) refl w.2

stays-staged : (hash : Hash) (m next : Machine) (last : ℕ) (fails : Bool) (progress : Option Progress) (output : Output) → Stages hash m last fails progress output next → Stays m next
stays-staged hash m next last fails None output does = stays-written m m next fails (fresh does.0) output refl does.2
stays-staged hash m next last fails (Some p) output does = stays-written m m next fails p output refl does

stays-sealed : (m next : Machine) (fails : Bool) (progress : Option Progress) (output : Output) → Seals m fails progress output next → Stays m next
stays-sealed m next fails None output does = absurd does
stays-sealed m next fails (Some p) output does = stays-called _ fails m _ _ next output refl refl (omega arith) refl does

stays-gated : (m next : Machine) (fails : Bool) (progress : Option Progress) (output : Output) → Gates m fails progress output next → Stays m next
stays-gated m next fails None output does = absurd does
stays-gated m next fails (Some p) output does = stays-called _ fails m _ _ next output refl refl (omega arith) refl does

stays-settled : (m next : Machine) (fails : Bool) (progress : Option Progress) (output : Output) → Settles m fails progress output next → Stays m next
stays-settled m next fails None output does = absurd does
stays-settled m next fails (Some p) output does = stays-called _ fails m _ _ next output refl refl (omega arith) refl does

stays-loaded : (m next : Machine) (session : ℕ) (word : Word) (output : Output) (hash : Hash) → Does hash m (on.Load session word) output next → Stays m next
stays-loaded m next session Placed output hash does = stays-as m m next does.1 (stays-same m)
stays-loaded m next session Durable output hash does = subst (Stays m) (sym does.1) (record { more = omega arith; same = refl })
stays-loaded m next session Linked output hash does = stays-as m m next does.1 (stays-same m)
stays-loaded m next session Indexed output hash does = stays-as m m next does.1 (stays-same m)
stays-loaded m next session Failed output hash does = stays-as m m next does.1 (stays-same m)

stays-opened : (hash : Hash) (m next : Machine) (output : Output) → GivesDigests hash → IsSound hash m → m.up ≡ false → Does hash m on.Open output next → Stays m next
stays-opened hash m next output gives s down does =
    let found : IsFront m does.0 = front-is hash m does.0 gives s down does.1 in
    subst (Stays m) (sym does.3) (record {
      more = omega (arith, found.no_fewer, found.size);
      same = ap (λ (l : List Transaction). take m.durable l) found.front ∙ take-take m.durable found.count m.placed found.no_fewer;
    })

stays-does : (hash : Hash) (m next : Machine) (event : Event) (output : Output) → GivesDigests hash → IsSound hash m → Allows hash m event → Does hash m event output next → Stays m next
stays-does hash m next (on.Place session ts asked) output gives s may does =
    let tx : Transaction = record { ts = ts; entries = asked.entries; bl = m.linked } in
    stays-placed hash m next tx (place_refusal m.placed asked.pres) output s.order.durable_placed does
stays-does hash m next (on.Stage last fails) output gives s may does = stays-staged hash m next last fails m.progress output does
stays-does hash m next (on.Seal fails) output gives s may does = stays-sealed m next fails m.progress output does
stays-does hash m next (on.Gate fails) output gives s may does = stays-gated m next fails m.progress output does
stays-does hash m next (on.Settle fails) output gives s may does = stays-settled m next fails m.progress output does
stays-does hash m next (on.Ack session number) output gives s may does = stays-as m m next does.1 (stays-same m)
stays-does hash m next on.Fault output gives s may does = subst (Stays m) (sym does.1) (record { more = omega arith; same = refl })
stays-does hash m next on.Link output gives s may does = subst (Stays m) (sym does.1) (record { more = omega arith; same = refl })
stays-does hash m next on.Index output gives s may does = subst (Stays m) (sym does.1) (record { more = omega arith; same = refl })
stays-does hash m next (on.Load session word) output gives s may does = stays-loaded m next session word output hash does
stays-does hash m next (on.Snap session number question) output gives s may does = stays-as m m next does.1 (stays-same m)
stays-does hash m next (on.Prove session question) output gives s may does = stays-as m m next does.1 (stays-same m)
stays-does hash m next (on.Crash image) output gives s may does = subst (Stays m) (sym does.1) (record { more = omega arith; same = refl })
stays-does hash m next on.Open output gives s may does = stays-opened hash m next output gives s may.0 does

pub stays-step : (hash : Hash) (m next : Machine) (event : Event) (output : Output) → GivesDigests hash → IsSound hash m → Steps hash m event output next → Stays m next
stays-step hash m next event output gives s (inl is) = stays-does hash m next event output gives s is.0 is.1
stays-step hash m next event output gives s (inr denied) = stays-as m m next denied.2 (stays-same m)

pub stays-on : (m next end : Machine) → Stays m next → Stays next end → Stays m end
stays-on m next end first rest =
    let cut : (l : List Transaction) → take m.durable (take next.durable l) ≡ take m.durable l = λ l. take-take m.durable next.durable l first.more in
    record {
      more = omega (arith, first.more, rest.more);
      same = sym (cut end.placed) ∙ ap (λ (l : List Transaction). take m.durable l) rest.same ∙ cut next.placed ∙ first.same;
    }

pub stays-run : (hash : Hash) (m : Machine) (events : List Event) (outputs : List Output) (end : Machine) → GivesDigests hash → IsSound hash m → All IsEvent events → Run hash m events outputs end
    → Stays m end
stays-run hash m [] [] end gives s each run = stays-as m m end run (stays-same m)
stays-run hash m [] (o ∷ outputs) end gives s each run = absurd run
stays-run hash m (e ∷ events) [] end gives s each run = absurd run
stays-run hash m (e ∷ events) (o ∷ outputs) end gives s each run =
    stays-on m run.0 end (stays-step hash m run.0 e o gives s run.1)
    (stays-run hash run.0 events outputs end gives (sound-step hash m run.0 e o gives s (each 0 e (omega arith)) run.1) (λ i d less. each (suc i) d (omega (arith, less))) run.2)

-- what is opened is a front part of what was placed, which holds what was durable
pub opened-number : (hash : Hash) (m next : Machine) (number : ℕ) → GivesDigests hash → IsSound hash m → Steps hash m on.Open (tells.Opened number) next
    → (m.durable ≤ number) × (number ≤ length m.placed) × (next.placed ≡ take number m.placed) × (next.durable ≡ number)
opened-number hash m next number gives s (inl is) =
    let does = is.1 in
    let found : IsFront m does.0 = front-is hash m does.0 gives s is.0.0 does.1 in
    let answered : tells.Opened number ≡ tells.Opened (length does.0) = does.2 in
    let count : number ≡ length does.0 = cc in
    let size : number ≡ found.count = count ∙ found.size in (
      omega (arith, found.no_fewer, size),
      omega (arith, found.no_more, size),
      ap (λ (x : Machine). x.placed) does.3 ∙ found.front ∙ ap (λ (n : ℕ). take n m.placed) (sym size),
      ap (λ (x : Machine). x.durable) does.3 ∙ sym count,
    )
opened-number hash m next number gives s (inr denied) =
    absurd (let answered : tells.Opened number ≡ tells.NotAllowed = denied.1 in let never : ⊥ = cc in never)
