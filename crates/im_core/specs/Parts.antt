-- The parts of an open store, and what they have to do with the machine.
use Rattle.std.specs.Prelude.{◌≡◌, ℕ, List, length, take, false, true, Option, Some, None}
use Rattle.im_book.specs.Booked.{Booked, IsBook}
use Rattle.im_core.specs.declared.store.OpenStore.{OpenStore}
use Rattle.im_digest.specs.Digests.{Hash}
use Rattle.im_disk.specs.Disk.{Told}
use Rattle.im_disk.specs.Recorded.{told_by, Recorded}
use Rattle.im_format.specs.declared.records.Record.{Record}
use Rattle.im_index.specs.Indexed.{Indexed, IsIndexOf}
use Rattle.im_journal.specs.Kept.{IsAtRest, IsInBatch, Kept}
use Rattle.im_levels.specs.Leveled.{IsLeveled, Stored}
use Rattle.im_machine.specs.Kept.{AreInOrder, IsDone}
use Rattle.im_machine.specs.Machines.{Machine, Progress}
use Rattle.im_machine.specs.Steps.{Steps}
use Rattle.im_machine.specs.declared.events.Event.{Event}
use Rattle.im_machine.specs.declared.outputs.Output.{Output}
use Rattle.im_model.specs.History.{alhs_of}
use Rattle.im_model.specs.declared.transactions.Transaction.{Transaction}

-- the book has the placed transactions, the tree the first Alh, as many as are linked, and the index the versions of the first
-- transactions, as many as are indexed
pub record HaveLists (hash : Hash) (book : Booked) (tree : Stored) (index : Indexed) (placed : List Transaction) (linked indexed : ℕ) : Type 0 where
  pub book_is : IsBook hash book
  pub placed_is : book.transactions ≡ placed
  pub tree_is : IsLeveled hash (take linked (alhs_of hash placed)) tree
  pub index_is : IsIndexOf index (take indexed placed)

-- what a disk in memory tells
abbrev pub tells : Recorded → Option Told
tells disk = Some (told_by disk)

-- the journal is as far as the machine's batch in progress
abbrev pub IsAsFar : Hash → List Transaction → List (List Record) → Option Progress → Kept Recorded → Type 0
IsAsFar hash placed batches None journal = IsAtRest tells hash placed batches journal
IsAsFar hash placed batches (Some p) journal =
    IsInBatch tells hash placed batches p.records journal × IsDone journal.batch.step (length journal.batch.pieces) journal.batch.written p.done

-- no call of the disk has failed, and the journal is as far as the machine
pub record IsGoing (hash : Hash) (m : Machine) (journal : Kept Recorded) : Type 0 where
  pub none : journal.failures ≡ 0
  pub far : IsAsFar hash m.placed m.batches m.progress journal

-- the parts are those of the machine, which is open
pub record IsUp (hash : Hash) (store : OpenStore) (m : Machine) : Type 0 where
  pub up : m.up ≡ true
  pub lists : HaveLists hash store.book store.tree store.index m.placed m.linked m.indexed
  pub order : AreInOrder m.placed m.durable m.linked m.indexed
  pub disk : told_by store.journal.disk ≡ m.disk
  pub durable : store.journal.durable ≡ m.durable
  pub failures : store.failures ≡ m.failures
  pub stopped : store.stopped ≡ m.stopped
  pub going : m.stopped ≡ false → IsGoing hash m store.journal

-- an event is answered by a step of the machine, whose parts these then are
abbrev pub Answers : Hash → Machine → Event → Output → OpenStore → Type 0
Answers hash m event output store = (next : Machine) × Steps hash m event output next × IsUp hash store next
