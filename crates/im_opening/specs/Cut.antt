-- What opening does to a disk: its sync, and the repair of the gate behind the batches that count.
use Rattle.std.specs.Prelude.{◌≡◌, ◌≢◌, ◌⊎◌, ◌≤◌, ◌+◌, ℕ, List, [], ◌∷◌, length, All, Option, Some}
use Rattle.im_clog.specs.Marks.{IsUncounted}
use Rattle.im_clog.specs.declared.marks.Uncounted.{Uncounted}
use Rattle.im_clog.specs.declared.marks.Uncounted.TheVariants.{Missing, Closed, Short}
use Rattle.im_digest.specs.Digests.{Hash}
use Rattle.im_disk.specs.Disk.{Files, Images, Told, after, seen}
use Rattle.im_disk.specs.Moments.{Leaves}
use Rattle.im_disk.specs.declared.calls.Call.TheVariants.{Wrote, Tore, Synced, Missed}
use Rattle.im_disk.specs.declared.disk.DiskError.{DiskError}
use Rattle.im_disk.specs.declared.disk.DiskError.TheVariants.{Failed, Memory}
use Rattle.im_format.specs.Batches.{gate_of, spans_of}
use Rattle.im_format.specs.Spans.{Reads, octet_span}
use Rattle.im_format.specs.Standing.{Stands}
use Rattle.im_format.specs.declared.records.Record.{Record}
use Rattle.im_journal.specs.Pieces.{end_of}
use Rattle.im_journal.specs.declared.ends.Ends.{Ends}
use Rattle.im_model.specs.declared.transactions.Transaction.{Transaction}
use Rattle.im_opening.specs.declared.errors.OpenError.{OpenError}
use Rattle.im_opening.specs.declared.errors.OpenError.TheVariants as opened
use Rattle.im_opening.specs.declared.reading.Opened.{Opened}

-- the image stands for this history, this is the place of the gate behind its batches, and the commit log ends before
-- the gate behind that one
pub record IsCutOff (hash : Hash) (history : List Transaction) (gate : ℕ) (image : Files) : Type 0 where
  pub stands : Stands hash image history
  pub gate_is : gate ≡ gate_of (length stands.batches)
  pub short : length (image 1) ≤ gate + 25

-- what opening a disk has done, whose reads gave an image that stands for this history: nothing; a sync that
-- failed; or a sync, and then at every moment each image stands for the history
abbrev pub WasOpened : Hash → List Transaction → Told → Option Told → Type 0
WasOpened hash history t now =
    (now ≡ Some t) ⊎ ((now ≡ Some (after Missed t)) ⊎ Leaves (λ image. Stands hash image history) (Some (after Synced t)) now)

-- some octet but 01 stands at the gate
pub record IsShut (image : Files) (gate : ℕ) : Type 0 where
  pub octet : ℕ
  pub closed : octet ≢ 1
  pub reads : Reads image (octet_span 1 gate octet)

-- the gate was closed by one write, and then that was made durable
abbrev pub shut_at : ℕ → Told → Told
shut_at gate t = after Synced (after (Wrote 1 gate (0 ∷ [])) t)

-- what a repair of the gate does, by why no batch counts at it: nothing where it is closed; else it is closed
abbrev pub repaired : Uncounted → ℕ → Told → Told
repaired Missing gate t = shut_at gate t
repaired (Closed octet) gate t = t
repaired (Short len) gate t = shut_at gate t

-- what closing the gate has done where the disk fails at it: a write that failed; or the write, and then a sync that
-- failed; and where memory runs out: nothing, or the write
abbrev pub IsHalfShut : DiskError → ℕ → Told → Option Told → Type 0
IsHalfShut Failed gate t now =
    (now ≡ Some (after (Tore 1 gate 1) t)) ⊎ (now ≡ Some (after Missed (after (Wrote 1 gate (0 ∷ [])) t)))
IsHalfShut Memory gate t now = (now ≡ Some t) ⊎ (now ≡ Some (after (Wrote 1 gate (0 ∷ [])) t))

-- what opening a disk has done, where this is the gate behind the batches that count: a sync, and the repair that the
-- reason asks for, why no batch counts at the gate in what reads gave
abbrev pub IsOpenedBy : ℕ → Told → Option Told → Type 0
IsOpenedBy gate t now = (behind : Uncounted) × IsUncounted (seen t 1) gate behind × (now ≡ Some (repaired behind gate (after Synced t)))

-- what opening a disk does: a sync, and the repair of the gate behind the batches that count
abbrev pub opened_by : Opened → Told → Told
opened_by opened t = repaired opened.behind (gate_of opened.batches) (after Synced t)

-- the image has all that stands of these batches, and a closed gate behind them, and no file of it is shorter than
-- its end
pub record IsHeld (batches : List (List Record)) (ends : Ends) (image : Files) : Type 0 where
  pub reads : All (Reads image) (spans_of batches)
  pub long : (file : ℕ) → end_of ends file ≤ length (image file)
  pub shut : IsShut image (gate_of (length batches))

-- and so has each image that a crash may leave, and what reads give
pub record IsHeldThroughout (batches : List (List Record)) (ends : Ends) (t : Told) : Type 0 where
  pub each : (image : Files) → Images t image → IsHeld batches ends image
  pub here : IsHeld batches ends (seen t)

-- what the repair of a gate has done where it ends in an error, by why no batch counts there: a part of closing it; where
-- it is closed the repair does nothing, and has no error
abbrev pub IsHalfRepaired : Uncounted → DiskError → ℕ → Told → Option Told → Type 0
IsHalfRepaired Missing error gate t now = IsHalfShut error gate t now
IsHalfRepaired (Closed octet) error gate t now = ⊥
IsHalfRepaired (Short len) error gate t now = IsHalfShut error gate t now

-- what opening a disk has done where that repair ends in an error, and this is the gate behind the batches that count: a
-- sync, and a part of the repair that the reason asks for, why no batch counts at the gate in what reads gave
abbrev pub IsHalfOpened : DiskError → ℕ → Told → Option Told → Type 0
IsHalfOpened error gate t now = (behind : Uncounted) × IsUncounted (seen t 1) gate behind × IsHalfRepaired behind error gate (after Synced t) now

-- where what reads gave stands for a history, that was done, and at every moment behind the sync each image stands for
-- the history
abbrev pub StopsAtGate : Hash → DiskError → Told → Option Told → Type 0
StopsAtGate hash error t now =
    (history : List Transaction) × (stands : Stands hash (seen t) history) × Leaves (λ image. Stands hash image history) (Some (after Synced t)) now
    × IsHalfOpened error (gate_of (length stands.batches)) t now

-- What opening a disk has done that wasn't opened, by its error, whatever the files are. Where the disk failed: a sync that
-- failed; one sync alone; or it stopped at the gate. Where memory ran out: nothing; one sync; or it
-- stopped at the gate. Where the files are damaged: one sync.
abbrev pub WasLeft : Hash → OpenError → Told → Option Told → Type 0
WasLeft hash opened.DiskFault t now = (now ≡ Some (after Missed t)) ⊎ ((now ≡ Some (after Synced t)) ⊎ StopsAtGate hash Failed t now)
WasLeft hash opened.Memory t now = (now ≡ Some t) ⊎ ((now ≡ Some (after Synced t)) ⊎ StopsAtGate hash Memory t now)
WasLeft hash (opened.Damaged damage) t now = now ≡ Some (after Synced t)

-- one sync at most, and nothing else
abbrev pub SyncsAtMost : Told → Option Told → Type 0
SyncsAtMost t now = (now ≡ Some t) ⊎ ((now ≡ Some (after Missed t)) ⊎ (now ≡ Some (after Synced t)))

-- What opening has done, by its error, to a disk whose files stand for a history, where this is the gate behind the batches
-- that count. Where the disk failed: a sync that failed; one sync alone; or a sync and a part of the closing of the gate,
-- whose last call failed. Where memory ran out: nothing; one sync; a sync and a part of the closing of the gate, none of
-- whose calls failed; or all that opening does. Files that are damaged are only synced.
abbrev pub WasBegun : OpenError → ℕ → Told → Option Told → Type 0
WasBegun opened.DiskFault gate t now = (now ≡ Some (after Missed t)) ⊎ ((now ≡ Some (after Synced t)) ⊎ IsHalfOpened Failed gate t now)
WasBegun opened.Memory gate t now = (now ≡ Some t) ⊎ ((now ≡ Some (after Synced t)) ⊎ (IsHalfOpened Memory gate t now ⊎ IsOpenedBy gate t now))
WasBegun (opened.Damaged damage) gate t now = now ≡ Some (after Synced t)
