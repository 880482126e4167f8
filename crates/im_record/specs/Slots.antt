-- The entries of a record as they are read, where the value logs have known lengths.
use Rattle.std.specs.Prelude.{◌≡◌, ℕ, ◌+◌, ◌-◌, ◌*◌, ◌^◌, ◌≤◌, Bool, List, [], ◌∷◌, ◌++◌, Err, length, nat_eq, nat_le, slice_index_or}
use Rattle.im_disk.specs.Disk.{Files}
use Rattle.im_model.specs.Entries.{attributes}
use Rattle.im_mtree.specs.Checks.{Check, first_fail}
use Rattle.im_format.specs.Damages.{from_one, index_of, md_checks, numbers, reaches, slot_key_checks, slot_md_checks}
use Rattle.im_format.specs.Reading.{Slot, number2, number4, number8, slot_at}
use Rattle.im_format.specs.Spans.{octets_at}
use Rattle.im_format.specs.declared.damages.Damage.{Damage}
use Rattle.im_format.specs.declared.references.ValueRef.{ValueRef}
use Rattle.im_record.specs.declared.errors.SlotError.{SlotError}
use Rattle.im_record.specs.declared.errors.SlotError.TheVariants.{Damaged, Memory}
use Rattle.im_record.specs.declared.slots.Slot as lent

-- the value logs of an image, 0 to 3, have these lengths
abbrev pub HaveLengths : Files → List ℕ → Type 0
HaveLengths image logs = (k : ℕ) → k ≤ 3 → length (image (2 + k)) ≡ slice_index_or logs k 0

-- the reference whose fields begin at a place: hVal 32 | value length 4 | log 1 | place 8
abbrev pub ref_at : List ℕ → ℕ → ValueRef
ref_at log at = record {
  hval = octets_at log at 32;
  len = number4 log (at + 32);
  log = slice_index_or log (at + 36) 0;
  at = number8 log (at + 37);
}

-- the checks of mdLen and md, at mdLen's place
abbrev pub md_part : List ℕ → ℕ → List (Check Damage)
md_part log at =
    let md_len = number2 log at in
    reaches log at 2
    ∷ (nat_le md_len 2, numbers 0 at 2 md_len)
    ∷ reaches log (at + 2) md_len
    ∷ md_checks (at + 2) (octets_at log (at + 2) md_len)

-- the checks of keyLen and key, at keyLen's place, behind entries with these keys
abbrev pub key_part : List ℕ → List (List ℕ) → ℕ → List (Check Damage)
key_part log keys at =
    let key_len = number2 log at in
    let key = octets_at log (at + 2) key_len in
    (reaches log at 2 ∷ from_one 0 at 1024 key_len)
    ++ (reaches log (at + 2) key_len
    ∷ (nat_eq (index_of key keys) (length keys), numbers 0 (at + 2) (length keys) (index_of key keys))
    ∷ [])

-- the checks of a value's length, at its place
abbrev pub len_part : List ℕ → ℕ → List (Check Damage)
len_part log at = reaches log at 4 ∷ (nat_le (number4 log at) 4096, numbers 0 at 4096 (number4 log at)) ∷ []

-- the checks of the value log that is named, at its place
abbrev pub log_part : List ℕ → ℕ → List (Check Damage)
log_part log at =
    reaches log at 1 ∷ (nat_le (slice_index_or log at 0) 3, numbers 0 at 3 (slice_index_or log at 0)) ∷ []

-- the checks of the place of a value of transaction id, at the field's place: so many octets, in a log of this
-- length
abbrev pub place_part : List ℕ → ℕ → ℕ → ℕ → ℕ → List (Check Damage)
place_part log id len size at =
    reaches log at 8
    ∷ (nat_le (number8 log at) (id * 2 ^ 22 - len), numbers 0 at (id * 2 ^ 22 - len) (number8 log at))
    ∷ (nat_le (number8 log at + len) size, numbers 0 at (number8 log at + len) size)
    ∷ []

-- the checks of a reference of a value of transaction id, at its place
abbrev pub ref_part : List ℕ → List ℕ → ℕ → ℕ → List (Check Damage)
ref_part log logs id at =
    let ref = ref_at log at in
    reaches log at 32
    ∷ (len_part log (at + 32)
    ++ (log_part log (at + 36) ++ place_part log id ref.len (slice_index_or logs ref.log 0) (at + 37)))

-- the checks of an entry of transaction id, behind entries with these keys, where the value logs have these
-- lengths
abbrev pub slot_checks_by : List ℕ → List ℕ → ℕ → List (List ℕ) → Slot → List (Check Damage)
slot_checks_by log logs id keys slot =
    slot_md_checks log slot
    ++ (slot_key_checks log keys slot ++ ref_part log logs id (slot.start + 4 + slot.md_len + slot.key_len))

-- what an error tells of checks: the first that fails, and nothing where memory is short
abbrev pub Tells : List (Check Damage) → SlotError → Type 0
Tells checks (Damaged d) = first_fail checks ≡ Err d
Tells checks Memory = Unit {0}

-- the fields of the entry at a place, as they are lent
pub record IsSlot (log : List ℕ) (at : ℕ) (slot : lent.Slot) : Type 0 where
  pub md : slot.md.now ≡ (slot_at log at).md
  pub key : slot.key.now ≡ (slot_at log at).key
  pub value : slot.value ≡ (slot_at log at).ref
  pub end : slot.end ≡ (slot_at log at).end

-- these octets are the metadata of an entry
abbrev pub AreAttributes : List ℕ → Type 0
AreAttributes md = (deleted : Bool) × (non_indexable : Bool) × (md ≡ attributes deleted non_indexable)

-- a reference of a value of transaction id that lies in a value log, where they have these lengths
pub record LiesInLogs (logs : List ℕ) (id : ℕ) (ref : ValueRef) : Type 0 where
  pub short : ref.len ≤ 4096
  pub log : ref.log ≤ 3
  pub room : ref.at + ref.len ≤ id * 2 ^ 22
  pub within : ref.at + ref.len ≤ slice_index_or logs ref.log 0
