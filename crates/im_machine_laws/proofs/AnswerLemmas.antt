-- An event that is allowed has an answer.
use Rattle.std.proofs.Common.{◌≤◌, ◌<◌, ◌+◌, ◌-◌, ◌*◌, ◌^◌, ◌++◌, ◌∷◌, [], ℕ, List, length, take, drop, get_or, true, false, Bool, refl, arith, Option, Some, None}
use Rattle.std.proofs.lemmas.Option.{slice_get-get_or}
use Rattle.im_digest.specs.Digests.{Hash}
use Rattle.im_disk.specs.declared.calls.Call.{Call}
use Rattle.im_disk.specs.declared.calls.Call.TheVariants.{Synced, Wrote}
use Rattle.im_format.specs.Batches.{joined}
use Rattle.im_format.specs.Places.{log_end, refs_of}
use Rattle.im_format.specs.declared.records.Record.{Record}
use Rattle.im_format.specs.declared.spans.Span.{Span}
use Rattle.im_journal.specs.Holding.{ends_of}
use Rattle.im_journal.specs.Kept.{Batch}
use Rattle.im_journal.proofs.Rooms.{room_behind}
use Rattle.im_journal.proofs.Single.{has_piece}
use Rattle.im_machine.specs.Allowed.{Allows, MayGate, MaySeal, MaySettle, MayStage}
use Rattle.im_machine.specs.Answers.{IsShown}
use Rattle.im_machine.specs.Machines.{fresh, further, gate_due, writes_due, Covers, Machine, Progress}
use Rattle.im_machine.specs.Steps.{Calls, Does, Gates, Places, Seals, Settles, Stages, Writes}
use Rattle.im_machine.specs.declared.events.Event.{Event}
use Rattle.im_machine.specs.declared.events.Event.TheVariants as on
use Rattle.im_machine.specs.declared.outputs.Output.{Output}
use Rattle.im_machine.specs.declared.questions.KeyQuestion.{KeyQuestion}
use Rattle.im_machine.specs.declared.questions.KeyQuestion.TheVariants as reads
use Rattle.im_machine.proofs.StepLemmas.{no_span}
use Rattle.im_machine_laws.proofs.BatchLemmas.{records-there, HasRecords}
use Rattle.im_machine_laws.proofs.ScanLemmas.{scan-there}
use Rattle.im_machine_laws.proofs.Sound.{IsAsFar, IsHeld, IsSound}
use Rattle.im_model.specs.declared.transactions.Transaction.{Transaction}
use Rattle.im_versions.specs.Admits.{place_refusal}
use Rattle.im_versions.specs.declared.refusals.PlaceError.{PlaceError}
use Rattle.im_versions.specs.declared.versions.Version.{Version}
use Rattle.im_vlog.specs.Ends.{HaveRoom}

-- an output, and a machine behind it
abbrev pub Answered : (Output → Machine → Type 0) → Type 0
Answered does = (output : Output) × (next : Machine) × does output next

placed-somehow : (hash : Hash) (m : Machine) (tx : Transaction) (why : Option PlaceError) → Answered (Places hash m tx why)
placed-somehow hash m tx None = (_, _, (refl, refl))
placed-somehow hash m tx (Some why) = (_, _, (refl, refl))

called-somehow : (call : Call) (fails : Bool) (m onward : Machine) → Answered (Calls call fails m onward)
called-somehow call true m onward = (_, _, (refl, refl))
called-somehow call false m onward = (_, _, (refl, refl))

written-somehow : (m : Machine) (fails : Bool) (p : Progress) → p.done < length (writes_due m p) → Answered (Writes m fails p)
written-somehow m fails p less =
    let piece : Span = get_or (writes_due m p) p.done no_span in
    let called = called-somehow (Wrote piece.file piece.at piece.octets) fails (record m { progress = Some p }) (record m { progress = Some (further p) }) in
    (called.0, called.1, (piece, slice_get-get_or (writes_due m p) p.done no_span less, called.2))

-- there are records of what is placed behind the durable transactions
covers-somehow : (hash : Hash) (m : Machine) (last : ℕ) (b : Batch) → IsSound hash m → IsAsFar hash m None b → (rs : List Record) × Covers hash m last rs
covers-somehow hash m last b s rest =
    let room : HaveRoom (m.durable + 1) (ends_of m.batches).values = room_behind hash m.placed m.batches m.durable (ends_of m.batches) rest.first in
    let end : log_end 0 (refs_of (joined m.batches)) ≤ (m.durable + 1 - 1) * 2 ^ 22 = room.each 0 (omega arith) in
    let h : HasRecords hash m.placed (take (last - m.durable) (drop m.durable m.placed)) m.durable (refs_of (joined m.batches)) =
    records-there hash m.placed m.durable (last - m.durable) (refs_of (joined m.batches)) s.history (omega (arith, end)) in
    (h.rs, record { transactions_are = h.transactions_are; records_are = h.records_are; put = h.put })

staged-somehow : (hash : Hash) (m : Machine) (last : ℕ) (fails : Bool) (progress : Option Progress) (b : Batch) → IsSound hash m → IsAsFar hash m progress b → MayStage m last progress
    → Answered (Stages hash m last fails progress)
staged-somehow hash m last fails None b s rest may =
    let covers = covers-somehow hash m last b s rest in
    let written = written-somehow m fails (fresh covers.0) (has_piece (ends_of m.batches) (m.durable + 1) covers.0) in
    (written.0, written.1, (covers.0, covers.1, written.2))
staged-somehow hash m last fails (Some p) b s far may = written-somehow m fails p may

sealed-somehow : (m : Machine) (fails : Bool) (progress : Option Progress) → MaySeal m progress → Answered (Seals m fails progress)
sealed-somehow m fails None may = absurd may
sealed-somehow m fails (Some p) may = called-somehow Synced fails m (record m { progress = Some (further p) })

gated-somehow : (m : Machine) (fails : Bool) (progress : Option Progress) → MayGate m progress → Answered (Gates m fails progress)
gated-somehow m fails None may = absurd may
gated-somehow m fails (Some p) may = called-somehow (Wrote 1 (gate_due m) (1 ∷ [])) fails m (record m { progress = Some (further p) })

settled-somehow : (m : Machine) (fails : Bool) (progress : Option Progress) → MaySettle m progress → Answered (Settles m fails progress)
settled-somehow m fails None may = absurd may
settled-somehow m fails (Some p) may = called-somehow Synced fails m (record m { durable = m.durable + length p.records; batches = m.batches ++ p.records ∷ []; progress = None })

shown-somehow : (history : List Transaction) (question : KeyQuestion) → (versions : List Version) × IsShown history question versions
shown-somehow history (reads.Get key) = (_, refl)
shown-somehow history (reads.Scan prefix) = scan-there history prefix
shown-somehow history (reads.Versions key) = (_, refl)

pub answered-somehow : (hash : Hash) (m : Machine) (event : Event) → IsSound hash m → Allows hash m event → Answered (Does hash m event)
answered-somehow hash m (on.Place session ts asked) s may = placed-somehow hash m _ (place_refusal m.placed asked.pres)
answered-somehow hash m (on.Stage last fails) s may = let h : IsHeld hash m = s.held may.0.up may.0.going in staged-somehow hash m last fails m.progress h.0 s h.1 may.1
answered-somehow hash m (on.Seal fails) s may = sealed-somehow m fails m.progress may.1
answered-somehow hash m (on.Gate fails) s may = gated-somehow m fails m.progress may.1
answered-somehow hash m (on.Settle fails) s may = settled-somehow m fails m.progress may.1
answered-somehow hash m (on.Ack session number) s may = (_, m, (refl, refl))
answered-somehow hash m on.Fault s may = (_, _, (refl, refl))
answered-somehow hash m on.Link s may = (_, _, (refl, refl))
answered-somehow hash m on.Index s may = (_, _, (refl, refl))
answered-somehow hash m (on.Load session word) s may = (_, _, (refl, refl))
answered-somehow hash m (on.Snap session number question) s may =
    let shown = shown-somehow (take number m.placed) question in
    (_, m, ((shown.0, refl, shown.1), refl))
answered-somehow hash m (on.Prove session question) s may = (_, m, (refl, refl))
answered-somehow hash m (on.Crash image) s may = (_, _, (refl, refl))
answered-somehow hash m on.Open s may = (_, _, (may.1.0, may.1.1, refl, refl))
