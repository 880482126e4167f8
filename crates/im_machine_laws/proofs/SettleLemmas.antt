-- What is durable moves by two events alone.
use Rattle.std.proofs.Common.{◌≡◌, ℕ, true, false, Bool, refl, ap, ◌∙◌, inl, inr, Option, Some, None}
use Rattle.im_digest.specs.Digests.{Hash}
use Rattle.im_disk.specs.declared.calls.Call.{Call}
use Rattle.im_machine.specs.Machines.{fresh, Machine, Progress}
use Rattle.im_machine.specs.Steps.{Calls, Does, Gates, Places, Seals, Settles, Stages, Steps}
use Rattle.im_machine.specs.declared.events.Event.{Event}
use Rattle.im_machine.specs.declared.events.Event.TheVariants as on
use Rattle.im_machine.specs.declared.outputs.Output.{Output}
use Rattle.im_machine.specs.declared.words.Word.{Word}
use Rattle.im_machine.specs.declared.words.Word.TheVariants.{Placed, Durable, Linked, Indexed, Failed}
use Rattle.im_model.specs.declared.transactions.Transaction.{Transaction}
use Rattle.im_versions.specs.Admits.{place_refusal}
use Rattle.im_versions.specs.declared.refusals.PlaceError.{PlaceError}

-- the machine is one with as many that are durable
durable-as : (m a next : Machine) → next ≡ a → a.durable ≡ m.durable → next.durable ≡ m.durable
durable-as m a next is same = ap (λ (x : Machine). x.durable) is ∙ same

durable-placed : (hash : Hash) (m next : Machine) (tx : Transaction) (why : Option PlaceError) (output : Output) → Places hash m tx why output next → next.durable ≡ m.durable
durable-placed hash m next tx None output does = durable-as m _ next does.1 refl
durable-placed hash m next tx (Some why) output does = durable-as m m next does.1 refl

durable-called : (call : Call) (fails : Bool) (m at onward next : Machine) (output : Output) → at.durable ≡ m.durable → onward.durable ≡ m.durable → Calls call fails at onward output next
    → next.durable ≡ m.durable
durable-called call true m at onward next output before behind does = durable-as m _ next does.1 before
durable-called call false m at onward next output before behind does = durable-as m _ next does.1 behind

durable-staged : (hash : Hash) (m next : Machine) (last : ℕ) (fails : Bool) (progress : Option Progress) (output : Output) → Stages hash m last fails progress output next → next.durable ≡ m.durable
durable-staged hash m next last fails None output does = durable-called _ fails m (record m { progress = Some (fresh does.0) }) _ next output refl refl does.2.2
durable-staged hash m next last fails (Some p) output does = durable-called _ fails m (record m { progress = Some p }) _ next output refl refl does.2

durable-sealed : (m next : Machine) (fails : Bool) (progress : Option Progress) (output : Output) → Seals m fails progress output next → next.durable ≡ m.durable
durable-sealed m next fails None output does = absurd does
durable-sealed m next fails (Some p) output does = durable-called _ fails m m _ next output refl refl does

durable-gated : (m next : Machine) (fails : Bool) (progress : Option Progress) (output : Output) → Gates m fails progress output next → next.durable ≡ m.durable
durable-gated m next fails None output does = absurd does
durable-gated m next fails (Some p) output does = durable-called _ fails m m _ next output refl refl does

-- a last sync that fails
durable-failed : (m next : Machine) (progress : Option Progress) (output : Output) → Settles m true progress output next → next.durable ≡ m.durable
durable-failed m next None output does = absurd does
durable-failed m next (Some p) output does = durable-as m _ next does.1 refl

durable-loaded : (hash : Hash) (m next : Machine) (session : ℕ) (word : Word) (output : Output) → Does hash m (on.Load session word) output next → next.durable ≡ m.durable
durable-loaded hash m next session Placed output does = durable-as m m next does.1 refl
durable-loaded hash m next session Durable output does = durable-as m _ next does.1 refl
durable-loaded hash m next session Linked output does = durable-as m m next does.1 refl
durable-loaded hash m next session Indexed output does = durable-as m m next does.1 refl
durable-loaded hash m next session Failed output does = durable-as m m next does.1 refl

durable-does : (hash : Hash) (m next : Machine) (event : Event) (output : Output) → Does hash m event output next → (event ≡ on.Settle false → ⊥) → (event ≡ on.Open → ⊥) → next.durable ≡ m.durable
durable-does hash m next (on.Place session ts asked) output does settled opened = durable-placed hash m next _ (place_refusal m.placed asked.pres) output does
durable-does hash m next (on.Stage last fails) output does settled opened = durable-staged hash m next last fails m.progress output does
durable-does hash m next (on.Seal fails) output does settled opened = durable-sealed m next fails m.progress output does
durable-does hash m next (on.Gate fails) output does settled opened = durable-gated m next fails m.progress output does
durable-does hash m next (on.Settle true) output does settled opened = durable-failed m next m.progress output does
durable-does hash m next (on.Settle false) output does settled opened = absurd (settled refl)
durable-does hash m next (on.Ack session number) output does settled opened = durable-as m m next does.1 refl
durable-does hash m next on.Fault output does settled opened = durable-as m _ next does.1 refl
durable-does hash m next on.Link output does settled opened = durable-as m _ next does.1 refl
durable-does hash m next on.Index output does settled opened = durable-as m _ next does.1 refl
durable-does hash m next (on.Load session word) output does settled opened = durable-loaded hash m next session word output does
durable-does hash m next (on.Snap session number question) output does settled opened = durable-as m m next does.1 refl
durable-does hash m next (on.Prove session question) output does settled opened = durable-as m m next does.1 refl
durable-does hash m next (on.Crash image) output does settled opened = durable-as m _ next does.1 refl
durable-does hash m next on.Open output does settled opened = absurd (opened refl)

pub durable-same : (hash : Hash) (m next : Machine) (event : Event) (output : Output) → Steps hash m event output next → (event ≡ on.Settle false → ⊥) → (event ≡ on.Open → ⊥)
    → next.durable ≡ m.durable
durable-same hash m next event output (inl is) settled opened = durable-does hash m next event output is.1 settled opened
durable-same hash m next event output (inr denied) settled opened = durable-as m m next denied.2 refl
