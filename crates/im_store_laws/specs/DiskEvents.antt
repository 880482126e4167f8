-- Which steps of the machine over events the changing calls of a store's disk are, its opening, and what it tells of failures. They are said
-- of one value log: the machine has no more.
use Rattle.std.specs.Prelude.{⊤, ◌≡◌, ◌⊎◌, ◌+◌, ◌-◌, ◌++◌, ◌∷◌, [], ℕ, List, length, map, replicate, Bool, true, false, Option, None, Some}
use Rattle.im_digest.specs.Digests.{Hash}
use Rattle.im_disk.specs.Disk.{Told}
use Rattle.im_disk.specs.Grown.{after_all}
use Rattle.im_format.specs.Batches.{joined}
use Rattle.im_format.specs.declared.records.Record.{Record}
use Rattle.im_journal.specs.Holding.{ends_of}
use Rattle.im_journal.specs.Pieces.{pieces_of}
use Rattle.im_machine.specs.Allowed.{Allows}
use Rattle.im_machine.specs.Machines.{opened, Machine}
use Rattle.im_machine.specs.Runs.{Run}
use Rattle.im_machine.specs.Steps.{Steps}
use Rattle.im_machine.specs.declared.events.Event.{Event}
use Rattle.im_machine.specs.declared.events.Event.TheVariants as on
use Rattle.im_machine.specs.declared.outputs.Output.{Output}
use Rattle.im_machine.specs.declared.outputs.Output.TheVariants as tells
use Rattle.im_model.specs.declared.transactions.Transaction.{Transaction}
use Rattle.im_seated_journal.specs.Calls.{calls_of_batches}
use Rattle.im_store_laws.specs.Events.{HoldsFirst}

-- an event that calls the disk, by whether the call is to fail
abbrev pub DiskStep : Type 0
DiskStep = Bool → Event

-- the events of these steps, none of which is to fail, and their answers
abbrev pub events_of : List DiskStep → List Event
events_of steps = map (λ step. step false) steps

abbrev pub answers_of : List DiskStep → List Output
answers_of steps = map (λ step. tells.Done) steps

-- the steps that make one batch of these records durable behind these batches: Stage up to its last transaction, once for each of its
-- pieces, Seal, Gate and Settle; no records are no batch
abbrev pub steps_of_batch : List (List Record) → List Record → List DiskStep
steps_of_batch batches [] = []
steps_of_batch batches (r ∷ rs) =
    replicate (length (pieces_of (ends_of batches) (length (joined batches) + 1) (r ∷ rs))) (λ fails. on.Stage (length (joined batches) + length (r ∷ rs)) fails)
    ++ (λ fails. on.Seal fails) ∷ (λ fails. on.Gate fails) ∷ (λ fails. on.Settle fails) ∷ []

-- the disk of the machine may be called, no batch is in progress, these batches hold what is durable, and its disk tells this
pub record RestsOn (m : Machine) (batches : List (List Record)) (t : Told) : Type 0 where
  pub going : m.stopped ≡ false
  pub idle : m.progress ≡ None
  pub batches_are : m.batches ≡ batches
  pub durable_are : m.durable ≡ length (joined batches)
  pub disk_is : m.disk ≡ t

-- no step is allowed that calls the disk
pub record CallsNothing (hash : Hash) (m : Machine) : Type 0 where
  pub stage : (last : ℕ) (fails : Bool) → Allows hash m (on.Stage last fails) → ⊥
  pub seal : (fails : Bool) → Allows hash m (on.Seal fails) → ⊥
  pub gate : (fails : Bool) → Allows hash m (on.Gate fails) → ⊥
  pub settle : (fails : Bool) → Allows hash m (on.Settle fails) → ⊥

-- The steps are made as far as they came, and the disk tells this then: a front part of them; or such a part, and then the next one, which
-- fails, and behind which no step is allowed that calls the disk.
abbrev pub MakesSteps : Hash → Machine → List DiskStep → Told → Type 0
MakesSteps hash m steps now =
    (made : List DiskStep) × (left : List DiskStep) × (steps ≡ made ++ left) × (end : Machine) × (end.disk ≡ now)
    × (Run hash m (events_of made) (answers_of made) end
    ⊎ ((step : DiskStep) × (rest : List DiskStep) × (left ≡ step ∷ rest)
    × Run hash m (events_of made ++ step true ∷ []) (answers_of made ++ tells.Failed ∷ []) end × CallsNothing hash end))

-- with these batches durable, and a disk that tells this
abbrev pub settled : Machine → List (List Record) → Told → Machine
settled m batches t = record m { durable = length (joined batches); batches = batches; disk = t }

-- Each of the further batches, behind the first ones and those of the further that are done: in each machine that holds as much of the
-- history as these and it, and rests on these, its steps lead to the machine in which it is durable too.
abbrev pub AreBatchSteps : Hash → List Transaction → List (List Record) → List (List Record) → Told → Type 0
AreBatchSteps hash history first more before =
    (done : List (List Record)) (records : List Record) (rest : List (List Record)) → more ≡ done ++ records ∷ rest
    → (m : Machine) → HoldsFirst m history (length (joined (first ++ done)) + length records) → RestsOn m (first ++ done) (after_all (calls_of_batches first done) before)
    → (end : Machine) × (end ≡ settled m (first ++ (done ++ records ∷ [])) (after_all (calls_of_batches first (done ++ records ∷ [])) before))
    × Run hash m (events_of (steps_of_batch (first ++ done) records)) (answers_of (steps_of_batch (first ++ done) records)) end

-- A last batch, behind the first and all of the further ones: in each machine that holds as much of the history as these and it, and rests
-- on these, its steps are made as far as the disk came.
abbrev pub AreLastSteps : Hash → List Transaction → List (List Record) → List (List Record) → List Record → Told → Told → Type 0
AreLastSteps hash history first more last before now =
    (m : Machine) → HoldsFirst m history (length (joined (first ++ more)) + length last) → RestsOn m (first ++ more) (after_all (calls_of_batches first more) before)
    → MakesSteps hash m (steps_of_batch (first ++ more) last) now

-- an event that neither calls the disk nor tells a failure, and is no crash and no opening
abbrev pub IsBeside : Event → Type 0
IsBeside (on.Place session ts asked) = ⊤
IsBeside (on.Stage last fails) = ⊥
IsBeside (on.Seal fails) = ⊥
IsBeside (on.Gate fails) = ⊥
IsBeside (on.Settle fails) = ⊥
IsBeside (on.Ack session number) = ⊤
IsBeside on.Fault = ⊥
IsBeside on.Link = ⊤
IsBeside on.Index = ⊤
IsBeside (on.Load session word) = ⊤
IsBeside (on.Snap session number question) = ⊤
IsBeside (on.Prove session question) = ⊤
IsBeside (on.Crash image) = ⊥
IsBeside on.Open = ⊥

-- Open, of a disk that told this: as many transactions are told as were found, and behind it the machine has what was found, rests on the
-- batches that hold it, and its disk tells what the store's does.
abbrev pub IsOpenStep : Hash → Told → List Transaction → Option Told → Type 0
IsOpenStep hash t history now =
    (m : Machine) → m.up ≡ false → m.disk ≡ t
    → (batches : List (List Record)) × (next : Machine) × (next ≡ opened m history batches) × Steps hash m on.Open (tells.Opened (length history)) next
    × (now ≡ Some next.disk) × HoldsFirst next history (length history) × RestsOn next batches next.disk

-- Fault, once for each failure more from one number to another: behind it no step is allowed that calls the disk
abbrev pub AreFaultSteps : Hash → ℕ → ℕ → Type 0
AreFaultSteps hash before after =
    (m : Machine) → m.up ≡ true → m.failures ≡ before
    → (next : Machine) × (next ≡ record m { failures = after; stopped = true })
    × Run hash m (replicate (after - before) on.Fault) (replicate (after - before) tells.Done) next × CallsNothing hash next
