-- The machine's step: one case an event.
use Rattle.std.specs.Prelude.{◌≡◌, ◌⊎◌, ◌+◌, ◌-◌, ◌^◌, ℕ, min, List, [], ◌∷◌, ◌++◌, length, take, slice_get, Bool, true, false, Option, Some, None}
use Rattle.im_machine.specs.Allowed.{Allows}
use Rattle.im_machine.specs.Answers.{header_at_end, proof_of, word_of, IsShown}
use Rattle.im_machine.specs.Machines.{fresh, further, gate_due, opened, raised, writes_due, Covers, Machine, Progress}
use Rattle.im_machine.specs.declared.events.Event.{Event}
use Rattle.im_machine.specs.declared.events.Event.TheVariants as on
use Rattle.im_machine.specs.declared.outputs.Output.{Output}
use Rattle.im_machine.specs.declared.outputs.Output.TheVariants as tells
use Rattle.im_machine.specs.declared.words.Word.{Word}
use Rattle.im_machine.specs.declared.words.Word.TheVariants.{Placed, Durable, Linked, Indexed, Failed}
use Rattle.im_digest.specs.Digests.{Hash}
use Rattle.im_disk.specs.Disk.{after, seen}
use Rattle.im_disk.specs.Records.{told_of}
use Rattle.im_disk.specs.declared.calls.Call.{Call}
use Rattle.im_disk.specs.declared.calls.Call.TheVariants.{Wrote, Synced}
use Rattle.im_format.specs.Standing.{Stands}
use Rattle.im_format.specs.declared.records.Record.{Record}
use Rattle.im_format.specs.declared.spans.Span.{Span}
use Rattle.im_journal.specs.Made.{failed_call}
use Rattle.im_model.specs.History.{header_of}
use Rattle.im_model.specs.declared.transactions.Transaction.{Transaction}
use Rattle.im_versions.specs.Admits.{place_refusal}
use Rattle.im_versions.specs.declared.refusals.PlaceError.{PlaceError}
use Rattle.im_versions.specs.declared.versions.Version.{Version}

-- a transaction is placed, where nothing refuses it, and its header told; else the refusal is told, with the number of
-- transactions that it was judged against
abbrev pub Places : Hash → Machine → Transaction → Option PlaceError → Output → Machine → Type 0
Places hash m tx None output new =
    (output ≡ tells.Placed (header_of hash (m.placed ++ tx ∷ []) (length m.placed + 1)))
    × (new ≡ record m { placed = m.placed ++ tx ∷ [] })
Places hash m tx (Some why) output new = (output ≡ tells.Refused why (length m.placed)) × (new ≡ m)

-- a changing call of the disk that is to fail or not; where it succeeds the machine goes on as this one
abbrev pub Calls : Call → Bool → Machine → Machine → Output → Machine → Type 0
Calls call true m onward output new =
    (output ≡ tells.Failed) × (new ≡ record m { disk = after (failed_call call) m.disk; stopped = true })
Calls call false m onward output new = (output ≡ tells.Done) × (new ≡ record onward { disk = after call m.disk })

-- the next write of a batch in progress
abbrev pub Writes : Machine → Bool → Progress → Output → Machine → Type 0
Writes m fails p output new =
    (piece : Span) × (slice_get (writes_due m p) p.done ≡ Some piece)
    × Calls (Wrote piece.file piece.at piece.octets) fails (record m { progress = Some p }) (record m { progress = Some (further p) }) output new

-- with no batch in progress one is begun, up to this number, and its first write made; else the next one
abbrev pub Stages : Hash → Machine → ℕ → Bool → Option Progress → Output → Machine → Type 0
Stages hash m last fails None output new = (rs : List Record) × Covers hash m last rs × Writes m fails (fresh rs) output new
Stages hash m last fails (Some p) output new = Writes m fails p output new

-- the writes of the batch are made durable by a sync
abbrev pub Seals : Machine → Bool → Option Progress → Output → Machine → Type 0
Seals m fails None output new = ⊥
Seals m fails (Some p) output new = Calls Synced fails m (record m { progress = Some (further p) }) output new

-- 01 is written at its gate
abbrev pub Gates : Machine → Bool → Option Progress → Output → Machine → Type 0
Gates m fails None output new = ⊥
Gates m fails (Some p) output new =
    Calls (Wrote 1 (gate_due m) (1 ∷ [])) fails m (record m { progress = Some (further p) }) output new

-- and that is made durable by a sync: the batch is durable, and no longer in progress
abbrev pub Settles : Machine → Bool → Option Progress → Output → Machine → Type 0
Settles m fails None output new = ⊥
Settles m fails (Some p) output new =
    Calls Synced fails m
    (record m { durable = m.durable + length p.records; batches = m.batches ++ p.records ∷ []; progress = None })
    output new

-- a load of what is durable raises what the session was told; one of another word changes nothing
abbrev pub loaded : Machine → ℕ → Word → Machine
loaded m session Placed = m
loaded m session Durable = record m { sessions = raised m.sessions session m.durable }
loaded m session Linked = m
loaded m session Indexed = m
loaded m session Failed = m

-- what an allowed event does: its output, and the machine behind it
abbrev pub Does : Hash → Machine → Event → Output → Machine → Type 0
Does hash m (on.Place session ts asked) output new =
    Places hash m (record { ts = ts; entries = asked.entries; bl = m.linked }) (place_refusal m.placed asked.pres) output new
Does hash m (on.Stage last fails) output new = Stages hash m last fails m.progress output new
Does hash m (on.Seal fails) output new = Seals m fails m.progress output new
Does hash m (on.Gate fails) output new = Gates m fails m.progress output new
Does hash m (on.Settle fails) output new = Settles m fails m.progress output new
Does hash m (on.Ack session number) output new = (output ≡ header_at_end hash m.placed number) × (new ≡ m)
Does hash m on.Fault output new =
    (output ≡ tells.Done) × (new ≡ record m { failures = min (m.failures + 1) (2 ^ 64 - 1); stopped = true })
Does hash m on.Link output new = (output ≡ tells.Done) × (new ≡ record m { linked = m.linked + 1 })
Does hash m on.Index output new = (output ≡ tells.Done) × (new ≡ record m { indexed = m.indexed + 1 })
Does hash m (on.Load session word) output new = (output ≡ tells.Word (word_of m word)) × (new ≡ loaded m session word)
Does hash m (on.Snap session number question) output new =
    ((versions : List Version) × (output ≡ tells.Versions versions) × IsShown (take number m.placed) question versions) × (new ≡ m)
Does hash m (on.Prove session question) output new = (output ≡ proof_of hash m.placed question) × (new ≡ m)
-- the files are the image, and the store isn't open
Does hash m (on.Crash image) output new = (output ≡ tells.Done) × (new ≡ record m { disk = told_of image []; up = false })
-- the history that the files stand for is the placed one, durable, linked and indexed
Does hash m on.Open output new =
    (history : List Transaction) × (stands : Stands hash (seen m.disk) history)
    × (output ≡ tells.Opened (length history)) × (new ≡ opened m history stands.batches)

-- one step: an event that is allowed does what it does, and another one is answered so, and changes nothing
abbrev pub Steps : Hash → Machine → Event → Output → Machine → Type 0
Steps hash m event output new =
    (Allows hash m event × Does hash m event output new)
    ⊎ ((Allows hash m event → ⊥) × (output ≡ tells.NotAllowed) × (new ≡ m))
