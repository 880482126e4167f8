-- What the octets of a record are read as.
use Rattle.std.specs.Prelude.{◌≡◌, ◌≤◌, ◌<◌, ◌+◌, ◌^◌, ◌-◌, ℕ, List, [], ◌∷◌, length, All, FitsSigned, Ok, map, slice_index_or}
use Rattle.std.specs.Int.{w64}
use Rattle.im_digest.specs.Digests.{Hash}
use Rattle.im_disk.specs.Disk.{Files}
use Rattle.im_model.specs.Entries.{EntryFits}
use Rattle.im_model.specs.History.{IsTransaction}
use Rattle.im_mtree.specs.Checks.{first_fail}
use Rattle.im_model.specs.declared.entries.Entry.{Entry}
use Rattle.im_format.specs.Batches.{entries_spans}
use Rattle.im_format.specs.Damages.{alh_checks, head_checks, slots_checks}
use Rattle.im_format.specs.Reading.{Slot, alh_place, bl_at, count_at, number8, record_end, slots_at, slots_end, transaction_in, ts_at}
use Rattle.im_format.specs.Records.{AreReferences, record_octets}
use Rattle.im_format.specs.Spans.{Reads, octets_at}
use Rattle.im_format.specs.Standing.{LiesIn}
use Rattle.im_format.specs.declared.records.Record.{Record}
use Rattle.im_format.specs.declared.references.ValueRef.{ValueRef}

-- these octets stand at a place of a log
pub record HasAt (log : List ℕ) (at : ℕ) (octets : List ℕ) : Type 0 where
  pub has : octets_at log at (length octets) ≡ octets

-- a reference whose digest has 32 octets, and whose length and place fit their fields
pub record FitsRef (ref : ValueRef) : Type 0 where
  pub hval : length ref.hval ≡ 32
  pub len : ref.len < 2 ^ 32
  pub at : ref.at < 2 ^ 64

-- a record of transaction id of which every number but a reference's log fits its field, with one reference for each
-- entry, and with an Alh of 32 octets
pub record FitsRecord (id : ℕ) (r : Record) : Type 0 where
  pub number : id < 2 ^ 64
  pub ts : FitsSigned w64 r.tx.ts
  pub bl : r.tx.bl < 2 ^ 64
  pub count : length r.tx.entries < 2 ^ 32
  pub entries : All EntryFits r.tx.entries
  pub one_each : length r.refs ≡ length r.tx.entries
  pub refs : All FitsRef r.refs
  pub alh : length r.alh ≡ 32

-- the fields of an entry that is read are those of this one, with this reference
pub record IsEntryOf (entry : Entry) (ref : ValueRef) (slot : Slot) : Type 0 where
  pub md_len : slot.md_len ≡ length entry.md
  pub md : slot.md ≡ entry.md
  pub key_len : slot.key_len ≡ length entry.key
  pub key : slot.key ≡ entry.key
  pub value : slot.ref ≡ ref

-- the entries that are read are these, each with its reference
abbrev pub AreEntriesOf : List Entry → List ValueRef → List Slot → Type 0
AreEntriesOf [] [] [] = Unit {0}
AreEntriesOf [] [] (slot ∷ slots) = ⊥
AreEntriesOf [] (ref ∷ refs) slots = ⊥
AreEntriesOf (entry ∷ entries) [] slots = ⊥
AreEntriesOf (entry ∷ entries) (ref ∷ refs) [] = ⊥
AreEntriesOf (entry ∷ entries) (ref ∷ refs) (slot ∷ slots) = IsEntryOf entry ref slot × AreEntriesOf entries refs slots

-- what is read at a place of a log is this record of transaction id, and nothing but it
pub record IsReadAs (log : List ℕ) (at id : ℕ) (r : Record) : Type 0 where
  pub number : number8 log at ≡ id
  pub ts : ts_at log at ≡ r.tx.ts
  pub bl : bl_at log at ≡ r.tx.bl
  pub count : count_at log at ≡ length r.tx.entries
  pub entries : AreEntriesOf r.tx.entries r.refs (slots_at log (at + 28) (count_at log at))
  pub alh : octets_at log (slots_end log (at + 28) (count_at log at)) 32 ≡ r.alh
  pub end : slots_end log (at + 28) (count_at log at) + 32 ≡ at + length (record_octets id r)
  pub within : at + length (record_octets id r) ≤ length log

-- the record of transaction id of a history, as far as it can be told without the others: within the limits
-- behind id - 1 others, with references of its values, and with a digest for its Alh
pub record IsSound (hash : Hash) (id : ℕ) (r : Record) : Type 0 where
  pub first : 1 ≤ id
  pub few : id < 2 ^ 42
  pub tx : IsTransaction (id - 1) r.tx
  pub refs : AreReferences hash id r.tx.entries r.refs
  pub alh : length r.alh ≡ 32

-- the record whose octets begin at a place of an image's transaction log
abbrev pub record_in : Files → ℕ → Record
record_in image at = record {
  tx = transaction_in image at;
  refs = map (λ s. s.ref) (slots_at (image 0) (at + 28) (count_at (image 0) at));
  alh = octets_at (image 0) (alh_place image at) 32;
}

-- the octets at a place of an image's transaction log pass the checks of transaction id, behind one whose tree
-- had this size, and are read as this record
pub record PassesChecks (hash : Hash) (image : Files) (id least at : ℕ) (r : Record) : Type 0 where
  pub head : first_fail (head_checks (image 0) id least at) ≡ Ok tt
  pub entries : first_fail (slots_checks hash image id [] (at + 28) (count_at (image 0) at)) ≡ Ok tt
  pub alh : first_fail (alh_checks (image 0) (alh_place image at) r.alh) ≡ Ok tt
  pub reading : record_in image at ≡ r
  pub end : record_end image at ≡ at + length (record_octets id r)

-- the image has these octets in its transaction log, and the values of the record, within their logs
pub record HasRecord (image : Files) (id at : ℕ) (r : Record) : Type 0 where
  pub octets : HasAt (image 0) at (record_octets id r)
  pub values : All (Reads image) (entries_spans r.tx.entries r.refs)
  pub lie : All (LiesIn image) r.refs

-- a list of octets
abbrev pub AreOctets : List ℕ → Type 0
AreOctets log = (i : ℕ) → slice_index_or log i 0 < 256

-- the record that is read at a place is one of transaction id, behind one whose tree had this size, with this
-- Alh, and the image holds it up to where its reading ends
pub record IsWritten (hash : Hash) (image : Files) (id least at : ℕ) (want : List ℕ) (r : Record) : Type 0 where
  pub sound : IsSound hash id r
  pub grows : least ≤ r.tx.bl
  pub held : HasRecord image id at r
  pub end : record_end image at ≡ at + length (record_octets id r)
  pub alh : r.alh ≡ want
