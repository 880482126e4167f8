-- What each image stands for at every moment of a step.
use Rattle.std.proofs.Common.{◌≡◌, ◌≤◌, ℕ, List, true, false, Bool, refl, sym, ap, subst, arith, inl, inr, Option, Some, None}
use Rattle.std.specs.Prelude.{◌⊎◌}
use Rattle.im_digest.specs.Digests.{Hash, GivesDigests}
use Rattle.im_disk.specs.Disk.{after, Files, Images, Told}
use Rattle.im_disk.specs.Moments.{Leaves}
use Rattle.im_disk.specs.declared.calls.Call.{Call}
use Rattle.im_disk.proofs.Leaving.{leaves_nothing}
use Rattle.im_format.specs.Standing.{Stands, StandsFrom}
use Rattle.im_journal.specs.Made.{failed_call}
use Rattle.im_machine.specs.Allowed.{Allows}
use Rattle.im_machine.specs.Machines.{fresh, Machine, Progress}
use Rattle.im_machine.specs.Steps.{Calls, Does, Gates, Places, Seals, Settles, Stages, Steps}
use Rattle.im_machine.specs.declared.events.Event.{Event}
use Rattle.im_machine.specs.declared.events.Event.TheVariants as on
use Rattle.im_machine.specs.declared.outputs.Output.{Output}
use Rattle.im_machine.specs.declared.outputs.Output.TheVariants as tells
use Rattle.im_machine.specs.declared.words.Word.{Word}
use Rattle.im_machine.specs.declared.words.Word.TheVariants.{Placed, Durable, Linked, Indexed, Failed}
use Rattle.im_machine_laws.specs.Events.{IsEvent}
use Rattle.im_machine_laws.proofs.DeviceLemmas.{one-more}
use Rattle.im_machine_laws.proofs.OpenLemmas.{open-holds, open-leaves}
use Rattle.im_machine_laws.proofs.RunLemmas.{sound-step, stays-step, Stays}
use Rattle.im_machine_laws.proofs.Sound.{IsSound}
use Rattle.im_model.specs.declared.transactions.Transaction.{Transaction}
use Rattle.im_versions.specs.Admits.{place_refusal}
use Rattle.im_versions.specs.declared.refusals.PlaceError.{PlaceError}

-- the disk is the same, or one call further
abbrev IsOneCall : Told → Told → Type 0
IsOneCall t now = (now ≡ t) ⊎ ((call : Call) × (now ≡ after call t))

one-leaves : (P : Files → Type 0) (t now : Told) → IsOneCall t now → ((image : Files) → Images now image → P image) → Leaves P (Some t) (Some now)
one-leaves P t now (inl is) images =
    let Q : Told → Type 0 = λ x. ((image : Files) → Images x image → P image) → Leaves P (Some t) (Some x) in
    subst Q (sym is) (λ each. (leaves_nothing P (Some t), each)) images
one-leaves P t now (inr call) images =
    let Q : Told → Type 0 = λ x. ((image : Files) → Images x image → P image) → Leaves P (Some t) (Some x) in
    subst Q (sym call.1) (λ each. one-more P t call.0 each) images

one-same : (m a next : Machine) → next ≡ a → a.disk ≡ m.disk → IsOneCall m.disk next.disk
one-same m a next is disk = inl (subst (λ (x : Machine). x.disk ≡ m.disk) (sym is) disk)

one-called : (call : Call) (fails : Bool) (at onward next : Machine) (output : Output) → Calls call fails at onward output next → IsOneCall at.disk next.disk
one-called call true at onward next output does = inr (failed_call call, ap (λ (x : Machine). x.disk) does.1)
one-called call false at onward next output does = inr (call, ap (λ (x : Machine). x.disk) does.1)

one-placed : (hash : Hash) (m next : Machine) (tx : Transaction) (why : Option PlaceError) (output : Output) → Places hash m tx why output next → IsOneCall m.disk next.disk
one-placed hash m next tx None output does = one-same m _ next does.1 refl
one-placed hash m next tx (Some why) output does = one-same m m next does.1 refl

one-staged : (hash : Hash) (m next : Machine) (last : ℕ) (fails : Bool) (progress : Option Progress) (output : Output) → Stages hash m last fails progress output next → IsOneCall m.disk next.disk
one-staged hash m next last fails None output does = one-called _ fails (record m { progress = Some (fresh does.0) }) _ next output does.2.2
one-staged hash m next last fails (Some p) output does = one-called _ fails (record m { progress = Some p }) _ next output does.2

one-sealed : (m next : Machine) (fails : Bool) (progress : Option Progress) (output : Output) → Seals m fails progress output next → IsOneCall m.disk next.disk
one-sealed m next fails None output does = absurd does
one-sealed m next fails (Some p) output does = one-called _ fails m _ next output does

one-gated : (m next : Machine) (fails : Bool) (progress : Option Progress) (output : Output) → Gates m fails progress output next → IsOneCall m.disk next.disk
one-gated m next fails None output does = absurd does
one-gated m next fails (Some p) output does = one-called _ fails m _ next output does

one-settled : (m next : Machine) (fails : Bool) (progress : Option Progress) (output : Output) → Settles m fails progress output next → IsOneCall m.disk next.disk
one-settled m next fails None output does = absurd does
one-settled m next fails (Some p) output does = one-called _ fails m _ next output does

one-loaded : (hash : Hash) (m next : Machine) (session : ℕ) (word : Word) (output : Output) → Does hash m (on.Load session word) output next → IsOneCall m.disk next.disk
one-loaded hash m next session Placed output does = one-same m m next does.1 refl
one-loaded hash m next session Durable output does = one-same m _ next does.1 refl
one-loaded hash m next session Linked output does = one-same m m next does.1 refl
one-loaded hash m next session Indexed output does = one-same m m next does.1 refl
one-loaded hash m next session Failed output does = one-same m m next does.1 refl

-- the moments of a step behind which each image has P
leaves-does : (hash : Hash) (m next : Machine) (event : Event) (output : Output) → GivesDigests hash → IsSound hash m → Allows hash m event → Does hash m event output next
    → ((image : List (List ℕ)) → event ≡ on.Crash image → ⊥) → ((image : Files) → Images next.disk image → StandsFrom hash m.durable next.placed image)
    → Leaves (StandsFrom hash m.durable next.placed) (Some m.disk) (Some next.disk)
leaves-does hash m next (on.Place session ts asked) output gives s may does other images =
    let tx : Transaction = record { ts = ts; entries = asked.entries; bl = m.linked } in
    one-leaves _ m.disk next.disk (one-placed hash m next tx (place_refusal m.placed asked.pres) output does) images
leaves-does hash m next (on.Stage last fails) output gives s may does other images = one-leaves _ m.disk next.disk (one-staged hash m next last fails m.progress output does) images
leaves-does hash m next (on.Seal fails) output gives s may does other images = one-leaves _ m.disk next.disk (one-sealed m next fails m.progress output does) images
leaves-does hash m next (on.Gate fails) output gives s may does other images = one-leaves _ m.disk next.disk (one-gated m next fails m.progress output does) images
leaves-does hash m next (on.Settle fails) output gives s may does other images = one-leaves _ m.disk next.disk (one-settled m next fails m.progress output does) images
leaves-does hash m next (on.Ack session number) output gives s may does other images = one-leaves _ m.disk next.disk (one-same m m next does.1 refl) images
leaves-does hash m next on.Fault output gives s may does other images = one-leaves _ m.disk next.disk (one-same m _ next does.1 refl) images
leaves-does hash m next on.Link output gives s may does other images = one-leaves _ m.disk next.disk (one-same m _ next does.1 refl) images
leaves-does hash m next on.Index output gives s may does other images = one-leaves _ m.disk next.disk (one-same m _ next does.1 refl) images
leaves-does hash m next (on.Load session word) output gives s may does other images = one-leaves _ m.disk next.disk (one-loaded hash m next session word output does) images
leaves-does hash m next (on.Snap session number question) output gives s may does other images = one-leaves _ m.disk next.disk (one-same m m next does.1 refl) images
leaves-does hash m next (on.Prove session question) output gives s may does other images = one-leaves _ m.disk next.disk (one-same m m next does.1 refl) images
leaves-does hash m next (on.Crash image) output gives s may does other images = absurd (other image refl)
leaves-does hash m next on.Open output gives s may does other images =
    subst (λ (x : Machine). Leaves (StandsFrom hash m.durable x.placed) (Some m.disk) (Some x.disk)) (sym does.3) (open-holds hash m does.0 gives s may.0 does.1)

-- an image that stands for a front part that holds more holds less
pub weaker : (hash : Hash) (history : List Transaction) (least more : ℕ) (image : Files) → least ≤ more → StandsFrom hash more history image → StandsFrom hash least history image
weaker hash history least more image le from = record { count = from.count; no_fewer = omega (arith, le, from.no_fewer); no_more = from.no_more; stands = from.stands }

pub leaves-step : (hash : Hash) (m next : Machine) (event : Event) (output : Output) → GivesDigests hash → IsSound hash m → IsEvent event → Steps hash m event output next
    → ((image : List (List ℕ)) → event ≡ on.Crash image → ⊥) → Leaves (StandsFrom hash m.durable next.placed) (Some m.disk) (Some next.disk)
leaves-step hash m next event output gives s e (inl is) other =
    let behind : IsSound hash next = sound-step hash m next event output gives s e (inl is) in
    let stays : Stays m next = stays-step hash m next event output gives s (inl is) in
    leaves-does hash m next event output gives s is.0 is.1 other
    (λ image now. weaker hash next.placed m.durable next.durable image stays.more (behind.images image now))
leaves-step hash m next event output gives s e (inr denied) other =
    one-leaves _ m.disk next.disk (one-same m m next denied.2 refl)
    (subst (λ (x : Machine). (image : Files) → Images x.disk image → StandsFrom hash m.durable x.placed image) (sym denied.2) s.images)

-- while it is opened each image stands for what is opened
pub leaves-open : (hash : Hash) (m next : Machine) (number : ℕ) → IsSound hash m → Steps hash m on.Open (tells.Opened number) next
    → Leaves (λ image. Stands hash image next.placed) (Some m.disk) (Some next.disk)
leaves-open hash m next number s (inl is) =
    subst (λ (x : Machine). Leaves (λ image. Stands hash image x.placed) (Some m.disk) (Some x.disk)) (sym is.1.3) (open-leaves hash m is.1.0 s is.0.0 is.1.1)
leaves-open hash m next number s (inr denied) =
    absurd (let answered : tells.Opened number ≡ tells.NotAllowed = denied.1 in let never : ⊥ = cc in never)
