-- What is checked of the files as they are read, in this order: batch by batch, field by field.
use Rattle.std.specs.Prelude.{ℕ, ◌+◌, ◌-◌, ◌*◌, ◌^◌, ◌&&◌, ◌||◌, suc, zero, List, [], ◌∷◌, ◌++◌, length, nat_eq, nat_le, bytes_eq, if◌then◌else◌}
use Rattle.im_digest.specs.Digests.{Hash}
use Rattle.im_disk.specs.Disk.{Files}
use Rattle.im_model.specs.Headers.{alh}
use Rattle.im_model.specs.History.{next_header}
use Rattle.im_mtree.specs.Checks.{Check}
use Rattle.im_format.specs.Reading.{Slot, alh_place, bl_at, count_at, counts, number_at, record_end, slot_at, transaction_in, value_at}
use Rattle.im_format.specs.Reading.{number8}
use Rattle.im_format.specs.Spans.{octets_at}
use Rattle.im_format.specs.declared.damages.Damage.{Damage}
use Rattle.im_format.specs.declared.damages.Difference.TheVariants.{Numbers, Digests}

-- what was wanted and what was found at a place of a file: two numbers, of a bound the bound and the field
abbrev pub numbers : ℕ → ℕ → ℕ → ℕ → Damage
numbers number place want got = record { file = number; at = place; found = Numbers want got }

-- the same of two digests
abbrev pub digests : ℕ → ℕ → List ℕ → List ℕ → Damage
digests number place want got = record { file = number; at = place; found = Digests want got }

-- a field of the transaction log doesn't reach past its end: else the field's end, and the log's length
abbrev pub reaches : List ℕ → ℕ → ℕ → Check Damage
reaches log at n = (nat_le (at + n) (length log), numbers 0 at (at + n) (length log))

-- a number of 8 octets is a certain one
abbrev pub is_number : ℕ → List ℕ → ℕ → ℕ → Check Damage
is_number number log at want = (nat_eq (number8 log at) want, numbers number at want (number8 log at))

-- a number that is 1 at least, and at most the greatest one
abbrev pub from_one : ℕ → ℕ → ℕ → ℕ → List (Check Damage)
from_one number at most got =
    (nat_le 1 got, numbers number at 1 got) ∷ (nat_le got most, numbers number at most got) ∷ []

-- the octets of an entry's metadata: the codes of its attributes in rising order, 0 and 2. Where one can't
-- stand, the least that may stand there, or 256 where none may.
abbrev pub md_checks : ℕ → List ℕ → List (Check Damage)
md_checks at [] = []
md_checks at (a ∷ []) = (nat_eq a 0 || nat_eq a 2, numbers 0 at 0 a) ∷ []
md_checks at (a ∷ b ∷ rest) =
    (nat_eq a 0 || nat_eq a 2, numbers 0 at 0 a)
    ∷ (nat_eq a 0 && nat_eq b 2, numbers 0 (at + 1) (if nat_eq a 0 then 2 else 256) b)
    ∷ []

-- the number of the first entry with this key, or of all where there is none
abbrev pub index_of : List ℕ → List (List ℕ) → ℕ
index_of key [] = 0
index_of key (other ∷ others) = if bytes_eq other key then 0 else index_of key others + 1

-- mdLen and md, of at most 2 octets
abbrev pub slot_md_checks : List ℕ → Slot → List (Check Damage)
slot_md_checks log slot =
    reaches log slot.start 2
    ∷ (nat_le slot.md_len 2, numbers 0 slot.start 2 slot.md_len)
    ∷ reaches log (slot.start + 2) slot.md_len
    ∷ md_checks (slot.start + 2) slot.md

-- keyLen and key, of 1 to 1024 octets, which isn't that of an entry before: else the entry's number, and
-- the earlier one's
abbrev pub slot_key_checks : List ℕ → List (List ℕ) → Slot → List (Check Damage)
slot_key_checks log keys slot =
    let len_at = slot.start + 2 + slot.md_len in
    (reaches log len_at 2 ∷ from_one 0 len_at 1024 slot.key_len)
    ++ (reaches log (len_at + 2) slot.key_len
    ∷ (nat_eq (index_of slot.key keys) (length keys), numbers 0 (len_at + 2) (length keys) (index_of slot.key keys))
    ∷ [])

-- hVal, value length, log and place of a value of transaction id: at most 4096 octets, in log 0 to 3, that
-- end at most at id * 2^22, and within the log
abbrev pub slot_ref_checks : Files → ℕ → Slot → List (Check Damage)
slot_ref_checks image id slot =
    let hval_at = slot.start + 4 + slot.md_len + slot.key_len in
    let ref = slot.ref in
    let length_of_log = length (image (2 + ref.log)) in
    reaches (image 0) hval_at 32
    ∷ reaches (image 0) (hval_at + 32) 4
    ∷ (nat_le ref.len 4096, numbers 0 (hval_at + 32) 4096 ref.len)
    ∷ reaches (image 0) (hval_at + 36) 1
    ∷ (nat_le ref.log 3, numbers 0 (hval_at + 36) 3 ref.log)
    ∷ reaches (image 0) (hval_at + 37) 8
    ∷ (nat_le ref.at (id * 2 ^ 22 - ref.len), numbers 0 (hval_at + 37) (id * 2 ^ 22 - ref.len) ref.at)
    ∷ (nat_le (ref.at + ref.len) length_of_log, numbers 0 (hval_at + 37) (ref.at + ref.len) length_of_log)
    ∷ []

-- the value, at its place: its digest
abbrev pub value_check : Hash → Files → Slot → Check Damage
value_check hash image slot =
    let got = hash (value_at image slot.ref) in
    (bytes_eq got slot.ref.hval, digests (2 + slot.ref.log) slot.ref.at slot.ref.hval got)

-- the fields of an entry of transaction id, behind entries with these keys
abbrev pub slot_checks : Files → ℕ → List (List ℕ) → Slot → List (Check Damage)
slot_checks image id keys slot =
    slot_md_checks (image 0) slot ++ (slot_key_checks (image 0) keys slot ++ slot_ref_checks image id slot)

-- entries that follow each other, each with its value
abbrev pub slots_checks : Hash → Files → ℕ → List (List ℕ) → ℕ → ℕ → List (Check Damage)
slots_checks hash image id keys at zero = []
slots_checks hash image id keys at (suc count) =
    let slot = slot_at (image 0) at in
    slot_checks image id keys slot
    ++ (value_check hash image slot ∷ slots_checks hash image id (keys ++ slot.key ∷ []) slot.end count)

-- ID, Ts, BlTxID and entry count of transaction id, where the tree of the one before had this size: its own
-- is no smaller, and below its ID. There are 1 to 1024 entries.
abbrev pub head_checks : List ℕ → ℕ → ℕ → ℕ → List (Check Damage)
head_checks log id bl at =
    reaches log at 8
    ∷ is_number 0 log at id
    ∷ reaches log (at + 8) 8
    ∷ reaches log (at + 16) 8
    ∷ (nat_le bl (bl_at log at), numbers 0 (at + 16) bl (bl_at log at))
    ∷ (nat_le (bl_at log at) (id - 1), numbers 0 (at + 16) (id - 1) (bl_at log at))
    ∷ reaches log (at + 24) 4
    ∷ from_one 0 (at + 24) 1024 (count_at log at)

-- the Alh
abbrev pub alh_checks : List ℕ → ℕ → List ℕ → List (Check Damage)
alh_checks log at want =
    reaches log at 32 ∷ (bytes_eq (octets_at log at 32) want, digests 0 at want (octets_at log at 32)) ∷ []

-- how far the files were read: the Alh of the transactions so far, the size of the last one's tree, and the
-- place in the transaction log
pub record Reached : Type 0 where
  pub alhs : List (List ℕ)
  pub bl : ℕ
  pub place : ℕ

-- before anything was read
abbrev pub at_first : Reached
at_first = record { alhs = []; bl = 0; place = 0 }

-- the number of the next transaction
abbrev pub next_id : Reached → ℕ
next_id r = length r.alhs + 1

-- the Alh of the next transaction as it is read
abbrev pub next_alh : Hash → Files → Reached → List ℕ
next_alh hash image r = alh hash (next_header hash r.alhs (transaction_in image r.place))

-- behind the next transaction
abbrev pub behind_one : Hash → Files → Reached → Reached
behind_one hash image r = record {
  alhs = r.alhs ++ next_alh hash image r ∷ [];
  bl = bl_at (image 0) r.place;
  place = record_end image r.place;
}

-- behind so many transactions
abbrev pub behind : Hash → Files → ℕ → Reached → Reached
behind hash image zero r = r
behind hash image (suc count) r = behind hash image count (behind_one hash image r)

-- the record of the next transaction
abbrev pub record_checks : Hash → Files → Reached → List (Check Damage)
record_checks hash image r =
    head_checks (image 0) (next_id r) r.bl r.place
    ++ (slots_checks hash image (next_id r) [] (r.place + 28) (count_at (image 0) r.place)
    ++ alh_checks (image 0) (alh_place image r.place) (next_alh hash image r))

-- the records of so many transactions, from the next one on
abbrev pub records_checks : Hash → Files → ℕ → Reached → List (Check Damage)
records_checks hash image zero r = []
records_checks hash image (suc count) r =
    record_checks hash image r ++ records_checks hash image count (behind_one hash image r)

-- a batch, whose gate stands at this place of the commit log: its first ID is the next one, its count is 1 at
-- least and leads to transaction 1048576 at most; then its records; then its end is where they end
abbrev pub batch_checks : Hash → Files → ℕ → Reached → List (Check Damage)
batch_checks hash image gate r =
    let count = number_at (image 1) gate in
    (is_number 1 (image 1) (gate + 1) (next_id r) ∷ from_one 1 (gate + 9) (1048576 - length r.alhs) count)
    ++ (records_checks hash image count r
    ++ (is_number 1 (image 1) (gate + 17) (behind hash image count r).place ∷ []))

-- the batches that count, from a gate on, at most so many
abbrev pub batches_checks : Hash → Files → ℕ → ℕ → Reached → List (Check Damage)
batches_checks hash image zero gate r = []
batches_checks hash image (suc most) gate r =
    if counts (image 1) gate
    then batch_checks hash image gate r
    ++ batches_checks hash image most (gate + 25) (behind hash image (number_at (image 1) gate) r)
    else []

-- all that is checked of an image: the first that fails is its damage
abbrev pub image_checks : Hash → Files → List (Check Damage)
image_checks hash image = batches_checks hash image (length (image 1)) 0 at_first
