-- What lies under the journal's lock.
use Rattle.std.specs.Prelude.{◌≡◌, ◌⊎◌, ◌+◌, ◌-◌, ◌≤◌, ◌^◌, ℕ, List, [], ◌++◌, length, map, take, drop, Option, Some, IfSome, slice_get}
use Rattle.std.specs.Option.{option_map}
use mathlib.Core.List.{IsPrefix}
use Rattle.im_digest.specs.Digests.{Hash}
use Rattle.im_disk.specs.Disk.{Told, seen}
use Rattle.im_disk.specs.Grown.{after_all}
use Rattle.im_disk.specs.Moments.{Leaves}
use Rattle.im_model.specs.declared.entries.Entry.{Entry}
use Rattle.im_format.specs.Batches.{joined}
use Rattle.im_format.specs.Standing.{HasBatches, StandsFrom}
use Rattle.im_format.specs.declared.records.Record.{Record}
use Rattle.im_format.specs.declared.references.ValueRef.{ValueRef}
use Rattle.im_table.specs.Histories.{history_of}
use Rattle.im_table.specs.Records.{AreRecordsOf}
use Rattle.im_table.specs.declared.items.LogItem.{LogItem}
use Rattle.im_table.specs.declared.view.View.{View}
use Rattle.im_journal.specs.Kept.{IsAtRest, IsInBatch, Kept}
use Rattle.im_journal.specs.Made.{MadeUpTo}
use Rattle.im_journal.specs.Values.{HoldsBatches}
use Rattle.im_seated_journal.specs.Calls.{MakesPart, calls_left, calls_of_batch, calls_of_batches}

-- a count rose by so many: one that stands at its type's end counts as having risen by any number
abbrev pub RoseBy : ℕ → ℕ → ℕ → Type 0
RoseBy before now count = (before + count ≤ now) ⊎ (2 ^ 64 - 1 ≤ now)

-- the references of these items, one list for each
abbrev pub refs_in : List LogItem → List (List ValueRef)
refs_in items = map (λ item. item.refs) items

-- a batch of these records is in progress, with the references of the items behind what is durable
pub record IsBatchOf {D : Type 0} (told : D → Option Told) (hash : Hash) (items : List LogItem) (batches : List (List Record)) (rs : List Record) (k : Kept D) : Type 0 where
  pub batch : IsInBatch told hash (history_of items) batches rs k
  pub refs_are : map (λ r. r.refs) rs ≡ take (length rs) (drop k.durable (refs_in items))

-- the journal is at rest, and there are no such records; or a batch of them, of the items behind what is durable, is in
-- progress
abbrev pub IsGoing : {D : Type 0} → (D → Option Told) → Hash → List LogItem → List (List Record) → List Record → Kept D → Type 0
IsGoing told hash items batches last k = (IsAtRest told hash (history_of items) batches k × (last ≡ [])) ⊎ IsBatchOf told hash items batches last k

-- Of these batches the first ones hold what was found, and were on the disk when it was opened. Since then it got the
-- calls of the further ones, one after the other, and those of a batch of `last`, the records of the items behind, as far as
-- they came: while none has failed, all but those that are left.
pub record HasMade {D : Type 0} (told : D → Option Told) (hash : Hash) (found : List LogItem) (synced : Option Told) (items : List LogItem) (batches : List (List Record)) (last : List Record) (k : Kept D) : Type 0 where
  pub first : List (List Record)
  pub more : List (List Record)
  pub batches_are : batches ≡ first ++ more
  pub found_are : length (joined first) ≡ length found
  pub held : IfSome synced (λ t. HasBatches (seen t) first)
  pub next : AreRecordsOf hash items k.durable last
  pub part : MakesPart (calls_of_batch batches last) (option_map (after_all (calls_of_batches first more)) synced) (told k.disk)
  pub left : k.failures ≡ 0 → MadeUpTo (calls_of_batch batches last) (calls_left k.batch.step k) (option_map (after_all (calls_of_batches first more)) synced) (told k.disk)

-- The journal serves the list that its pass has seen. Of a front part of it the first `durable` items are in these
-- batches, transactions and references, and their values are held behind a failed call too. While none has failed it is at
-- rest, or a batch of the next items is in progress. It has counted no more failures than the disk since it was opened, and
-- none only where the disk counted none. The disk's calls since then are those of batches (`HasMade`), and at each moment
-- since then each image stood for a front part of the list that has what was found.
pub record ServesItems {D : Type 0} (told : D → Option Told) (faults : D → ℕ) (hash : Hash) (found : List LogItem) (synced : Option Told) (before : ℕ) (seen : List LogItem) (k : Kept D) : Type 0 where
  pub items : List LogItem
  pub begins : IsPrefix items seen
  pub batches : List (List Record)
  pub last : List Record
  pub holds : HoldsBatches told hash (history_of items) batches k
  pub refs_are : map (λ r. r.refs) (joined batches) ≡ take k.durable (refs_in items)
  pub going : k.failures ≡ 0 → IsGoing told hash items batches last k
  pub old : length found ≤ k.durable
  pub rose : RoseBy before (faults k.disk) k.failures
  pub calm : k.failures ≡ 0 → faults k.disk ≡ before
  pub made : HasMade told hash found synced items batches last k
  pub moments : Leaves (StandsFrom hash (length found) (history_of items)) synced (told k.disk)

-- an entry of one of these items has this value, and this reference: which item, and which entry of it, both counted
-- from 0
pub record HasItemValue (items : List LogItem) (value : List ℕ) (reference : ValueRef) : Type 0 where
  pub number : ℕ
  pub place : ℕ
  pub holder : LogItem
  pub entry : Entry
  pub holder_is : slice_get items number ≡ Some holder
  pub entry_is : slice_get holder.tx.entries place ≡ Some entry
  pub value_is : entry.value ≡ value
  pub reference_is : slice_get holder.refs place ≡ Some reference

-- a view behind the stores by which it told of failures up to this number
abbrev pub told_failures : View → ℕ → View
told_failures v n = record v { least = record v.least { failed = n }; faults = v.faults + (n - v.least.failed) }
