-- Which values a journal's disk holds.
use Rattle.std.specs.Prelude.{◌≡◌, ◌⊎◌, ℕ, List, Option, Some, slice_get}
use Rattle.im_digest.specs.Digests.{Hash}
use Rattle.im_disk.specs.Disk.{Told}
use Rattle.im_model.specs.declared.entries.Entry.{Entry}
use Rattle.im_model.specs.declared.transactions.Transaction.{Transaction}
use Rattle.im_format.specs.declared.records.Record.{Record}
use Rattle.im_format.specs.declared.references.ValueRef.{ValueRef}
use Rattle.im_journal.specs.Durable.{HoldsDurable}
use Rattle.im_journal.specs.Kept.{IsAtRest, IsInBatch, Kept}

-- an entry of one of these records has this value, and this reference: which record, and which entry of it, both
-- counted from 0
pub record HasValue (rs : List Record) (value : List ℕ) (reference : ValueRef) : Type 0 where
  pub number : ℕ
  pub place : ℕ
  pub holder : Record
  pub entry : Entry
  pub holder_is : slice_get rs number ≡ Some holder
  pub entry_is : slice_get holder.tx.entries place ≡ Some entry
  pub value_is : entry.value ≡ value
  pub reference_is : slice_get holder.refs place ≡ Some reference

-- these batches are durable: the journal is at rest with them, or a batch is in progress behind them, or a call of the disk
-- has failed since
abbrev pub HoldsBatches : {D : Type 0} → (D → Option Told) → Hash → List Transaction → List (List Record) → Kept D → Type 0
HoldsBatches told hash history batches k =
    IsAtRest told hash history batches k ⊎ (((rs : List Record) × IsInBatch told hash history batches rs k) ⊎ HoldsDurable told hash history batches k)
