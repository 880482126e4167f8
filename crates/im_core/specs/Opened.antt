-- What opening gives.
use Rattle.std.specs.Prelude.{◌≡◌, List, length, false, Option, Some, None}
use Rattle.im_core.specs.Parts.{tells, HaveLists, IsUp}
use Rattle.im_core.specs.declared.opening.Lists.{Lists}
use Rattle.im_core.specs.declared.store.OpenStore.{OpenStore}
use Rattle.im_digest.specs.Digests.{Hash}
use Rattle.im_disk.specs.Disk.{Told, seen}
use Rattle.im_disk.specs.Recorded.{told_by, Recorded}
use Rattle.im_format.specs.Batches.{gate_of}
use Rattle.im_format.specs.Standing.{Stands}
use Rattle.im_format.specs.declared.records.Record.{Record}
use Rattle.im_journal.specs.Kept.{IsAtRest, Kept}
use Rattle.im_machine.specs.Machines.{disk_opened, opened, Machine}
use Rattle.im_model.specs.declared.transactions.Transaction.{Transaction}

-- the lists are those of this history, all of which is linked and indexed
abbrev pub HasFound : Hash → List Transaction → Lists → Type 0
HasFound hash history lists = HaveLists hash lists.book lists.tree lists.index history (length history) (length history)

-- a store that was opened on a disk that told this, whose files stand for this history by these batches
pub record IsOpened (hash : Hash) (t : Told) (history : List Transaction) (batches : List (List Record)) (store : OpenStore) : Type 0 where
  pub lists : HaveLists hash store.book store.tree store.index history (length history) (length history)
  pub disk : told_by store.journal.disk ≡ disk_opened (gate_of (length batches)) t
  pub durable : store.journal.durable ≡ length history
  pub failures : store.failures ≡ 0
  pub stopped : store.stopped ≡ false
  pub none : store.journal.failures ≡ 0
  pub rests : IsAtRest tells hash history batches store.journal

-- a store over this journal that has this history, to which no failure was told
pub record IsStoreOver (hash : Hash) (journal : Kept Recorded) (history : List Transaction) (store : OpenStore) : Type 0 where
  pub lists : HaveLists hash store.book store.tree store.index history (length history) (length history)
  pub journal_is : store.journal ≡ journal
  pub failures : store.failures ≡ 0
  pub stopped : store.stopped ≡ false

-- there is one
abbrev pub IsOver : Hash → Kept Recorded → List Transaction → Option OpenStore → Type 0
IsOver hash journal history None = ⊥
IsOver hash journal history (Some store) = IsStoreOver hash journal history store

-- what is opened of a disk that tells this: a store of the history that its files stand for, or none, where they stand for none
abbrev pub OpensTo : Hash → Told → Option OpenStore → Type 0
OpensTo hash t None = (history : List Transaction) → Stands hash (seen t) history → ⊥
OpensTo hash t (Some store) = (history : List Transaction) × (stands : Stands hash (seen t) history) × IsOpened hash t history stands.batches store

-- what the machine is opened to: a store that is as it is then, or none, where it is open or its files stand for no history
abbrev pub MayOpen : Hash → Machine → Option OpenStore → Type 0
MayOpen hash m None = (m.up ≡ false) × ((history : List Transaction) × Stands hash (seen m.disk) history) → ⊥
MayOpen hash m (Some store) =
    (m.up ≡ false)
    × ((history : List Transaction) × (stands : Stands hash (seen m.disk) history)
    × (length store.book.transactions ≡ length history) × IsUp hash store (opened m history stands.batches))
