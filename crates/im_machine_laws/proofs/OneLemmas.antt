-- An event has one answer, and one machine behind it.
use Rattle.std.proofs.Common.{◌≡◌, ◌+◌, ◌∙◌, ℕ, List, length, take, true, false, Bool, sym, ap, subst, inl, inr, Option, Some, None}
use Rattle.im_octet.proofs.Common.{some-is}
use Rattle.im_digest.specs.Digests.{Hash, GivesDigests}
use Rattle.im_disk.specs.Disk.{seen}
use Rattle.im_disk.specs.declared.calls.Call.{Call}
use Rattle.im_disk.specs.declared.calls.Call.TheVariants.{Wrote}
use Rattle.im_format.specs.Batches.{joined}
use Rattle.im_format.specs.Places.{refs_of}
use Rattle.im_format.specs.declared.records.Record.{Record}
use Rattle.im_format.specs.declared.spans.Span.{Span}
use Rattle.im_format.proofs.StandReads.{stands-once}
use Rattle.im_machine.specs.Answers.{IsShown}
use Rattle.im_machine.specs.Machines.{fresh, further, opened, Covers, Machine, Progress}
use Rattle.im_machine.specs.Steps.{Calls, Does, Gates, Places, Seals, Settles, Stages, Steps, Writes}
use Rattle.im_machine.specs.declared.events.Event.{Event}
use Rattle.im_machine.specs.declared.events.Event.TheVariants as on
use Rattle.im_machine.specs.declared.outputs.Output.{Output}
use Rattle.im_machine.specs.declared.outputs.Output.TheVariants as tells
use Rattle.im_machine.specs.declared.questions.KeyQuestion.{KeyQuestion}
use Rattle.im_machine.specs.declared.questions.KeyQuestion.TheVariants as reads
use Rattle.im_machine_laws.proofs.BatchLemmas.{records-once}
use Rattle.im_model.specs.declared.transactions.Transaction.{Transaction}
use Rattle.im_opening.proofs.BatchesSame.{batches-read}
use Rattle.im_versions.specs.Admits.{place_refusal}
use Rattle.im_versions.specs.declared.refusals.PlaceError.{PlaceError}
use Rattle.im_versions.specs.declared.versions.Version.{Version}
use Rattle.im_versions.proofs.VersionLemmas.{scan-unique}

-- two answers are one
abbrev pub AreOne : Output → Output → Machine → Machine → Type 0
AreOne told too a b = (told ≡ too) × (a ≡ b)

-- two that are both these are
both-are : (output told too : Output) (next a b : Machine) → (told ≡ output) × (a ≡ next) → (too ≡ output) × (b ≡ next) → AreOne told too a b
both-are output told too next a b x y = (x.0 ∙ sym y.0, x.1 ∙ sym y.1)

one-place : (hash : Hash) (m a b : Machine) (tx : Transaction) (why : Option PlaceError) (told too : Output) → Places hash m tx why told a → Places hash m tx why too b → AreOne told too a b
one-place hash m a b tx None told too x y = both-are _ told too _ a b x y
one-place hash m a b tx (Some why) told too x y = both-are _ told too m a b x y

one-call : (call : Call) (fails : Bool) (m onward a b : Machine) (told too : Output) → Calls call fails m onward told a → Calls call fails m onward too b → AreOne told too a b
one-call call true m onward a b told too x y = both-are _ told too _ a b x y
one-call call false m onward a b told too x y = both-are _ told too _ a b x y

one-write : (m a b : Machine) (fails : Bool) (p : Progress) (told too : Output) → Writes m fails p told a → Writes m fails p too b → AreOne told too a b
one-write m a b fails p told too x y =
    let same : y.0 ≡ x.0 = some-is y.0 x.0 (sym y.1 ∙ x.1) in
    let at : Machine = record m { progress = Some p } in
    let onward : Machine = record m { progress = Some (further p) } in
    let second : Calls (Wrote x.0.file x.0.at x.0.octets) fails at onward too b =
    subst (λ (s : Span). Calls (Wrote s.file s.at s.octets) fails at onward too b) same y.2 in
    one-call (Wrote x.0.file x.0.at x.0.octets) fails at onward a b told too x.2 second

one-batch : (hash : Hash) (m : Machine) (last : ℕ) (a b : List Record) → Covers hash m last a → Covers hash m last b → a ≡ b
one-batch hash m last a b x y =
    records-once hash m.placed 1 (m.durable + 1) (refs_of (joined m.batches)) a b (x.transactions_are ∙ sym y.transactions_are) x.records_are y.records_are x.put y.put

one-stage : (hash : Hash) (m a b : Machine) (last : ℕ) (fails : Bool) (progress : Option Progress) (told too : Output) → Stages hash m last fails progress told a
    → Stages hash m last fails progress too b → AreOne told too a b
one-stage hash m a b last fails None told too x y =
    let same : y.0 ≡ x.0 = one-batch hash m last y.0 x.0 y.1 x.1 in
    one-write m a b fails (fresh x.0) told too x.2 (subst (λ (rs : List Record). Writes m fails (fresh rs) too b) same y.2)
one-stage hash m a b last fails (Some p) told too x y = one-write m a b fails p told too x y

one-seal : (m a b : Machine) (fails : Bool) (progress : Option Progress) (told too : Output) → Seals m fails progress told a → Seals m fails progress too b → AreOne told too a b
one-seal m a b fails None told too x y = absurd x
one-seal m a b fails (Some p) told too x y = one-call _ fails m _ a b told too x y

one-gate : (m a b : Machine) (fails : Bool) (progress : Option Progress) (told too : Output) → Gates m fails progress told a → Gates m fails progress too b → AreOne told too a b
one-gate m a b fails None told too x y = absurd x
one-gate m a b fails (Some p) told too x y = one-call _ fails m _ a b told too x y

one-settle : (m a b : Machine) (fails : Bool) (progress : Option Progress) (told too : Output) → Settles m fails progress told a → Settles m fails progress too b → AreOne told too a b
one-settle m a b fails None told too x y = absurd x
one-settle m a b fails (Some p) told too x y = one-call _ fails m _ a b told too x y

one-shown : (history : List Transaction) (question : KeyQuestion) (a b : List Version) → IsShown history question a → IsShown history question b → a ≡ b
one-shown history (reads.Get key) a b x y = x ∙ sym y
one-shown history (reads.Scan prefix) a b x y = scan-unique history prefix a b x y
one-shown history (reads.Versions key) a b x y = x ∙ sym y

-- what is opened of files
one-open : (hash : Hash) (m a b : Machine) (told too : Output) → GivesDigests hash → Does hash m on.Open told a → Does hash m on.Open too b → AreOne told too a b
one-open hash m a b told too gives x y =
    let history : y.0 ≡ x.0 = stands-once hash (seen m.disk) y.0 x.0 (record { long = gives }) y.1 x.1 in
    let batches : y.1.batches ≡ x.1.batches =
    sym (batches-read hash (seen m.disk) y.0 (record { long = gives }) y.1) ∙ batches-read hash (seen m.disk) x.0 (record { long = gives }) x.1 in (
      x.2 ∙ ap (λ (l : List Transaction). tells.Opened (length l)) (sym history) ∙ sym y.2,
      x.3 ∙ ap (λ (l : List Transaction). opened m l x.1.batches) (sym history) ∙ ap (λ (l : List (List Record)). opened m y.0 l) (sym batches) ∙ sym y.3,
    )

one-does : (hash : Hash) (m a b : Machine) (event : Event) (told too : Output) → GivesDigests hash → Does hash m event told a → Does hash m event too b → AreOne told too a b
one-does hash m a b (on.Place session ts asked) told too gives x y = one-place hash m a b _ (place_refusal m.placed asked.pres) told too x y
one-does hash m a b (on.Stage last fails) told too gives x y = one-stage hash m a b last fails m.progress told too x y
one-does hash m a b (on.Seal fails) told too gives x y = one-seal m a b fails m.progress told too x y
one-does hash m a b (on.Gate fails) told too gives x y = one-gate m a b fails m.progress told too x y
one-does hash m a b (on.Settle fails) told too gives x y = one-settle m a b fails m.progress told too x y
one-does hash m a b (on.Ack session number) told too gives x y = both-are _ told too m a b x y
one-does hash m a b on.Fault told too gives x y = both-are _ told too _ a b x y
one-does hash m a b on.Link told too gives x y = both-are _ told too _ a b x y
one-does hash m a b on.Index told too gives x y = both-are _ told too _ a b x y
one-does hash m a b (on.Load session word) told too gives x y = both-are _ told too _ a b x y
one-does hash m a b (on.Snap session number question) told too gives x y =
    let same : x.0.0 ≡ y.0.0 = one-shown (take number m.placed) question x.0.0 y.0.0 x.0.2 y.0.2 in
    (x.0.1 ∙ ap (λ (l : List Version). tells.Versions l) same ∙ sym y.0.1, x.1 ∙ sym y.1)
one-does hash m a b (on.Prove session question) told too gives x y = both-are _ told too m a b x y
one-does hash m a b (on.Crash image) told too gives x y = both-are _ told too _ a b x y
one-does hash m a b on.Open told too gives x y = one-open hash m a b told too gives x y

pub one-step : (hash : Hash) (m a b : Machine) (event : Event) (told too : Output) → GivesDigests hash → Steps hash m event told a → Steps hash m event too b → AreOne told too a b
one-step hash m a b event told too gives (inl x) (inl y) = one-does hash m a b event told too gives x.1 y.1
one-step hash m a b event told too gives (inl x) (inr denied) = absurd (denied.0 x.0)
one-step hash m a b event told too gives (inr denied) (inl y) = absurd (denied.0 y.0)
one-step hash m a b event told too gives (inr x) (inr y) = both-are _ told too m a b (x.1, x.2) (y.1, y.2)
