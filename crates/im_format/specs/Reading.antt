-- The fields of the logs, read off the octets at their places.
use Rattle.std.specs.Prelude.{ℕ, ℤ, ◌+◌, ◌&&◌, suc, zero, Bool, List, [], ◌∷◌, ◌++◌, length, map, nat_eq, nat_lt, slice_index_or, if◌then◌else◌}
use Rattle.std.specs.Int.{w16, w32, w64, cast_signed, from_be_bytes}
use Rattle.im_disk.specs.Disk.{Files}
use Rattle.im_model.specs.declared.entries.Entry.{Entry}
use Rattle.im_model.specs.declared.transactions.Transaction.{Transaction}
use Rattle.im_format.specs.Spans.{octets_at}
use Rattle.im_format.specs.declared.references.ValueRef.{ValueRef}

-- the number of the 2 octets at a place
unfoldable pub number2 : List ℕ → ℕ → ℕ
number2 log at = from_be_bytes w16 (octets_at log at 2)

-- that of 4
unfoldable pub number4 : List ℕ → ℕ → ℕ
number4 log at = from_be_bytes w32 (octets_at log at 4)

-- that of 8
unfoldable pub number8 : List ℕ → ℕ → ℕ
number8 log at = from_be_bytes w64 (octets_at log at 8)

-- an entry of a record, as it is read: where it begins and ends, and its fields
pub record Slot : Type 0 where
  pub start : ℕ
  pub md_len : ℕ
  pub md : List ℕ
  pub key_len : ℕ
  pub key : List ℕ
  pub ref : ValueRef
  pub end : ℕ

-- mdLen 2 | md | keyLen 2 | key | hVal 32 | value length 4 | log 1 | place 8
abbrev pub slot_of : List ℕ → ℕ → ℕ → ℕ → ℕ → Slot
slot_of log at md_len key_len hval_at = record {
  start = at;
  md_len = md_len;
  md = octets_at log (at + 2) md_len;
  key_len = key_len;
  key = octets_at log (at + 4 + md_len) key_len;
  ref = record {
    hval = octets_at log hval_at 32;
    len = number4 log (hval_at + 32);
    log = slice_index_or log (hval_at + 36) 0;
    at = number8 log (hval_at + 37);
  };
  end = hval_at + 45;
}

-- the entry that begins at a place
unfoldable pub slot_at : List ℕ → ℕ → Slot
slot_at log at =
    let md_len = number2 log at in
    let key_len = number2 log (at + 2 + md_len) in
    slot_of log at md_len key_len (at + 4 + md_len + key_len)

-- so many entries that follow each other
abbrev pub slots_at : List ℕ → ℕ → ℕ → List Slot
slots_at log at zero = []
slots_at log at (suc count) = slot_at log at ∷ slots_at log (slot_at log at).end count

-- where they end
abbrev pub slots_end : List ℕ → ℕ → ℕ → ℕ
slots_end log at zero = at
slots_end log at (suc count) = slots_end log (slot_at log at).end count

-- the octets that a reference shows, fewer where its log ends before
abbrev pub value_at : Files → ValueRef → List ℕ
value_at image ref = octets_at (image (2 + ref.log)) ref.at ref.len

-- an entry with its value
abbrev pub entry_in : Files → Slot → Entry
entry_in image slot = record { md = slot.md; key = slot.key; value = value_at image slot.ref }

-- Ts of the record at a place, which is ID 8 | Ts 8 | BlTxID 8 | entry count 4 | the entries | Alh 32
abbrev pub ts_at : List ℕ → ℕ → ℤ
ts_at log at = cast_signed w64 (number8 log (at + 8))

-- its BlTxID
abbrev pub bl_at : List ℕ → ℕ → ℕ
bl_at log at = number8 log (at + 16)

-- its entry count
abbrev pub count_at : List ℕ → ℕ → ℕ
count_at log at = number4 log (at + 24)

-- the transaction whose record begins at a place
abbrev pub transaction_in : Files → ℕ → Transaction
transaction_in image at = record {
  ts = ts_at (image 0) at;
  entries = map (entry_in image) (slots_at (image 0) (at + 28) (count_at (image 0) at));
  bl = bl_at (image 0) at;
}

-- where its Alh begins, behind its entries
abbrev pub alh_place : Files → ℕ → ℕ
alh_place image at = slots_end (image 0) (at + 28) (count_at (image 0) at)

-- where its record ends
abbrev pub record_end : Files → ℕ → ℕ
record_end image at = alh_place image at + 32

-- so many transactions that follow each other
abbrev pub transactions_in : Files → ℕ → ℕ → List Transaction
transactions_in image at zero = []
transactions_in image at (suc count) = transaction_in image at ∷ transactions_in image (record_end image at) count

-- where their records end
abbrev pub records_end : Files → ℕ → ℕ → ℕ
records_end image at zero = at
records_end image at (suc count) = records_end image (record_end image at) count

-- the gate at this place is open, and all octets up to the next gate, that one too, are there
abbrev pub counts : List ℕ → ℕ → Bool
counts log gate = nat_eq (slice_index_or log gate 0) 1 && nat_lt (gate + 25) (length log)

-- the first ID of the batch whose gate stands at a place of the commit log
abbrev pub first_at : List ℕ → ℕ → ℕ
first_at log gate = number8 log (gate + 1)

-- its count
abbrev pub number_at : List ℕ → ℕ → ℕ
number_at log gate = number8 log (gate + 9)

-- where it says that its records end in the transaction log
abbrev pub end_at : List ℕ → ℕ → ℕ
end_at log gate = number8 log (gate + 17)

-- the transactions of the batches that count, from a gate and a place of the transaction log on, at most so
-- many batches
abbrev pub history_from : Files → ℕ → ℕ → ℕ → List Transaction
history_from image zero gate at = []
history_from image (suc most) gate at =
    let count = number_at (image 1) gate in
    if counts (image 1) gate
    then transactions_in image at count ++ history_from image most (gate + 25) (records_end image at count)
    else []

-- the transactions that an image shows, whether or not they are a history
abbrev pub history_in : Files → List Transaction
history_in image = history_from image (length (image 1)) 0 0
