-- The parts of an image's checks, and what is read with each.
use Rattle.std.specs.Prelude.{◌≡◌, ◌+◌, ℕ, suc, zero, ◌-◌, nat_eq, List, [], ◌∷◌, ◌++◌, length, map, bytes_eq, if◌then◌else◌}
use Rattle.im_clog.specs.declared.marks.Mark.{Mark}
use Rattle.im_digest.specs.Digests.{Hash}
use Rattle.im_disk.specs.Disk.{Files}
use Rattle.im_format.specs.Damages.{digests, from_one, head_checks, numbers, slot_checks, slots_checks, value_check}
use Rattle.im_format.specs.Reading.{alh_place, count_at, counts, entry_in, number_at, record_end, records_end, slot_at, slots_at, slots_end, transaction_in, value_at}
use Rattle.im_format.specs.declared.damages.Damage.{Damage}
use Rattle.im_format.specs.declared.records.Record.{Record}
use Rattle.im_format.specs.declared.references.ValueRef.{ValueRef}
use Rattle.im_model.specs.declared.entries.Entry.{Entry}
use Rattle.im_model.specs.declared.transactions.Transaction.{Transaction}
use Rattle.im_mtree.specs.Checks.{Check}
use Rattle.im_record.specs.Back.{record_in}
use Rattle.im_record.specs.Slots.{HaveLengths}

-- the image has this transaction log, and value logs of these lengths
pub record Shows (image : Files) (log lengths : List ℕ) : Type 0 where
  pub log_is : log ≡ image 0
  pub lengths_are : HaveLengths image lengths

-- the check of the value that a reference shows
abbrev pub digest_check : Hash → Files → ValueRef → Check Damage
digest_check hash image ref =
    let got = hash (value_at image ref) in
    (bytes_eq got ref.hval, digests (2 + ref.log) ref.at ref.hval got)

-- the checks of the entry of transaction id at a place, with its value, behind entries with these keys
abbrev pub entry_checks : Hash → Files → ℕ → List (List ℕ) → ℕ → List (Check Damage)
entry_checks hash image id keys at =
    let slot = slot_at (image 0) at in
    slot_checks image id keys slot ++ (value_check hash image slot ∷ [])

-- an entry, the reference of its value, and its end, as the image has them at a place
pub record IsEntryAt (image : Files) (at : ℕ) (entry : Entry) (ref : ValueRef) (end : ℕ) : Type 0 where
  pub entry_is : entry ≡ entry_in image (slot_at (image 0) at)
  pub ref_is : ref ≡ (slot_at (image 0) at).ref
  pub end_is : end ≡ (slot_at (image 0) at).end

-- so many entries that follow each other from a place on, the references of their values, and where they end
pub record AreEntriesAt (image : Files) (at count : ℕ) (entries : List Entry) (refs : List ValueRef) (end : ℕ) : Type 0 where
  pub entries_are : entries ≡ map (entry_in image) (slots_at (image 0) at count)
  pub refs_are : refs ≡ map (λ slot. slot.ref) (slots_at (image 0) at count)
  pub end_is : end ≡ slots_end (image 0) at count

-- the checks of a transaction's head and of its entries, with their values
abbrev pub transaction_checks : Hash → Files → ℕ → ℕ → ℕ → List (Check Damage)
transaction_checks hash image id bl at =
    head_checks (image 0) id bl at ++ slots_checks hash image id [] (at + 28) (count_at (image 0) at)

-- the references of the values of the transaction at a place
abbrev pub refs_at : Files → ℕ → List ValueRef
refs_at image at = map (λ slot. slot.ref) (slots_at (image 0) (at + 28) (count_at (image 0) at))

-- a transaction, the references of its values, and the place of its Alh, as the image has them at a place
pub record IsTransactionAt (image : Files) (at : ℕ) (tx : Transaction) (refs : List ValueRef) (end : ℕ) : Type 0 where
  pub tx_is : tx ≡ transaction_in image at
  pub refs_are : refs ≡ refs_at image at
  pub end_is : end ≡ alh_place image at

-- so many records that follow each other
abbrev pub records_in : Files → ℕ → ℕ → List Record
records_in image at zero = []
records_in image at (suc count) = record_in image at ∷ records_in image (record_end image at) count

-- the records of the batches that count, from a gate and a place of the transaction log on, at most so many
-- batches
abbrev pub batches_from : Files → ℕ → ℕ → ℕ → List (List Record)
batches_from image zero gate at = []
batches_from image (suc most) gate at =
    let count = number_at (image 1) gate in
    if counts (image 1) gate
    then records_in image at count ∷ batches_from image most (gate + 25) (records_end image at count)
    else []

-- the batches that count
abbrev pub batches_in : Files → List (List Record)
batches_in image = batches_from image (length (image 1)) 0 0

-- the checks of a batch's first ID and count, behind so many transactions
abbrev pub mark_checks : Mark → ℕ → ℕ → List (Check Damage)
mark_checks mark gate before =
    (nat_eq mark.first (before + 1), numbers 1 (gate + 1) (before + 1) mark.first) ∷ from_one 1 (gate + 9) (1048576 - before) mark.count

-- the check of the batch's end, where its last record ends at a place
abbrev pub end_checks : Mark → ℕ → ℕ → List (Check Damage)
end_checks mark gate place = (nat_eq mark.end place, numbers 1 (gate + 17) place mark.end) ∷ []

-- where the records of the batches that count end in the transaction log, from a gate and a place of it on, at
-- most so many batches
abbrev pub place_from : Files → ℕ → ℕ → ℕ → ℕ
place_from image zero gate at = at
place_from image (suc most) gate at =
    if counts (image 1) gate then place_from image most (gate + 25) (records_end image at (number_at (image 1) gate)) else at

-- where the records of all batches that count end in the transaction log
abbrev pub counted_end : Files → ℕ
counted_end image = place_from image (length (image 1)) 0 0
