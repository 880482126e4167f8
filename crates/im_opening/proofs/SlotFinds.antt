-- The checks of an entry by the lengths of the value logs, and by the image.
use Rattle.std.proofs.Common.{◌≡◌, ℕ, ◌+◌, ◌-◌, ◌*◌, ◌^◌, ◌≤◌, List, [], ◌∷◌, ◌++◌, length, get_or, refl, ap, sym, ◌∙◌, subst, arith, Ok, Err, eqb-true, inl, inr, nat_le}
use Rattle.std.proofs.lemmas.Bool.{cases_Bool, leb-true}
use Rattle.im_disk.specs.Disk.{Files}
use Rattle.im_format.specs.Damages.{index_of, numbers, reaches, slot_checks, slot_key_checks, slot_md_checks, slot_ref_checks, value_check}
use Rattle.im_format.specs.Reading.{Slot, slot_at}
use Rattle.im_format.specs.declared.damages.Damage.{Damage}
use Rattle.im_mtree.specs.Checks.{Check, first_fail}
use Rattle.im_record.specs.Slots as Read
use Rattle.im_record.specs.Slots.{HaveLengths, ref_part, slot_checks_by}
use Rattle.im_record.specs.declared.errors.SlotError.{SlotError}
use Rattle.im_record.specs.declared.errors.SlotError.TheVariants.{Damaged, Memory}
use Rattle.im_mtree.proofs.CheckLemmas.{fail_append, fail_first, all-hold}
use Rattle.im_opening.specs.Answers.{Tells, of_record}
use Rattle.im_opening.specs.Parts.{Shows, digest_check, entry_checks}
use Rattle.im_opening.specs.declared.errors.OpenError.{OpenError}
use Rattle.im_opening.specs.declared.errors.OpenError.TheVariants as Open
use Rattle.im_format.specs.declared.references.ValueRef.{ValueRef}
use Rattle.im_digest.specs.Digests.{Hash}
use Rattle.im_format.proofs.PassLemmas.{pass-left, pass-right}
use Rattle.im_opening.proofs.Finding.{find-same, find-stop}

-- the checks of a reference before that of its log
abbrev front : List ℕ → Slot → List (Check Damage)
front log slot =
    let hval_at = slot.start + 4 + slot.md_len + slot.key_len in
    reaches log hval_at 32
    ∷ reaches log (hval_at + 32) 4
    ∷ (nat_le slot.ref.len 4096, numbers 0 (hval_at + 32) 4096 slot.ref.len)
    ∷ reaches log (hval_at + 36) 1
    ∷ []

abbrev number_check : Slot → Check Damage
number_check slot =
    let hval_at = slot.start + 4 + slot.md_len + slot.key_len in
    (nat_le slot.ref.log 3, numbers 0 (hval_at + 36) 3 slot.ref.log)

-- and behind it, in a log of this size
abbrev back : List ℕ → ℕ → Slot → ℕ → List (Check Damage)
back log id slot size =
    let hval_at = slot.start + 4 + slot.md_len + slot.key_len in
    reaches log (hval_at + 37) 8
    ∷ (nat_le slot.ref.at (id * 2 ^ 22 - slot.ref.len), numbers 0 (hval_at + 37) (id * 2 ^ 22 - slot.ref.len) slot.ref.at)
    ∷ (nat_le (slot.ref.at + slot.ref.len) size, numbers 0 (hval_at + 37) (slot.ref.at + slot.ref.len) size)
    ∷ []

abbrev all : List ℕ → ℕ → Slot → ℕ → List (Check Damage)
all log id slot size = front log slot ++ (number_check slot ∷ back log id slot size)

size-same : (log : List ℕ) (id : ℕ) (slot : Slot) (m n : ℕ) → (slot.ref.log ≤ 3 → m ≡ n) → first_fail (all log id slot m) ≡ first_fail (all log id slot n)
size-same log id slot m n same = elim (cases_Bool (nat_le slot.ref.log 3)) [
  | inl holds ↦ ap (λ (k : ℕ). first_fail (all log id slot k)) (same (omega (arith, leb-true _ _ holds)))
  | inr fails ↦ find-stop (front log slot) (number_check slot) (back log id slot m) fails ∙ sym (find-stop (front log slot) (number_check slot) (back log id slot n) fails)
]

by-lengths : (log lengths : List ℕ) (id at : ℕ) → (let slot = slot_at log at in
    ref_part log lengths id (slot.start + 4 + slot.md_len + slot.key_len) ≡ all log id slot (get_or lengths slot.ref.log 0))
unfolding slot_at
by-lengths log lengths id at = refl

by-image : (image : Files) (id : ℕ) (slot : Slot) → slot_ref_checks image id slot ≡ all (image 0) id slot (length (image (2 + slot.ref.log)))
by-image image id slot = refl

-- where the value logs have these lengths
pub slot-finds : (image : Files) (lengths : List ℕ) (id : ℕ) (keys : List (List ℕ)) (at : ℕ) → HaveLengths image lengths
    → first_fail (slot_checks_by (image 0) lengths id keys (slot_at (image 0) at)) ≡ first_fail (slot_checks image id keys (slot_at (image 0) at))
slot-finds image lengths id keys at same =
    let slot = slot_at (image 0) at in
    let md = slot_md_checks (image 0) slot in
    let key = slot_key_checks (image 0) keys slot in
    let by = ref_part (image 0) lengths id (slot.start + 4 + slot.md_len + slot.key_len) in
    find-same md (key ++ by) (key ++ slot_ref_checks image id slot) (find-same key by (slot_ref_checks image id slot) (
    ap first_fail (by-lengths (image 0) lengths id at)
    ∙ size-same (image 0) id slot (get_or lengths slot.ref.log 0) (length (image (2 + slot.ref.log))) (λ le. sym (same slot.ref.log le))
    ∙ ap first_fail (sym (by-image image id slot))
    ))

-- the key is none of those before
pub key-fresh : (log lengths : List ℕ) (id : ℕ) (keys : List (List ℕ)) (slot : Slot)
    → first_fail (slot_checks_by log lengths id keys slot) ≡ Ok tt → index_of slot.key keys ≡ length keys
key-fresh log lengths id keys slot ok =
    let by = ref_part log lengths id (slot.start + 4 + slot.md_len + slot.key_len) in
    let key = slot_key_checks log keys slot in
    let h = pass-left key by (pass-right (slot_md_checks log slot) (key ++ by) (all-hold (slot_checks_by log lengths id keys slot) ok)) in
    eqb-true _ _ h.1.1.1.1.0

-- where the image has this transaction log
pub slot-fails : (hash : Hash) (image : Files) (log lengths : List ℕ) (id : ℕ) (keys : List (List ℕ)) (at : ℕ) (e : SlotError) → Shows image log lengths
    → Read.Tells (slot_checks_by log lengths id keys (slot_at log at)) e → Tells (entry_checks hash image id keys at) (of_record e)
slot-fails hash image log lengths id keys at (Damaged d) shows bad =
    let slot = slot_at (image 0) at in
    let P : List ℕ → Type 0 = λ l. first_fail (slot_checks_by l lengths id keys (slot_at l at)) ≡ Err d in
    fail_first (slot_checks image id keys slot) (value_check hash image slot ∷ []) d
    (sym (slot-finds image lengths id keys at shows.lengths_are) ∙ subst P shows.log_is bad)
slot-fails hash image log lengths id keys at Memory shows bad = tt

-- and where the entry's fields hold: what is found of the value
pub value-finds : (hash : Hash) (image : Files) (log lengths : List ℕ) (id : ℕ) (keys : List (List ℕ)) (at : ℕ) (ref : ValueRef) → Shows image log lengths
    → first_fail (slot_checks_by log lengths id keys (slot_at log at)) ≡ Ok tt → ref ≡ (slot_at log at).ref
    → first_fail (entry_checks hash image id keys at) ≡ first_fail (digest_check hash image ref ∷ [])
value-finds hash image log lengths id keys at ref shows fine is =
    let slot = slot_at (image 0) at in
    let P : List ℕ → Type 0 = λ l. first_fail (slot_checks_by l lengths id keys (slot_at l at)) ≡ Ok tt in
    let Q : List ℕ → Type 0 = λ l. ref ≡ (slot_at l at).ref in
    fail_append (slot_checks image id keys slot) (value_check hash image slot ∷ [])
    (sym (slot-finds image lengths id keys at shows.lengths_are) ∙ subst P shows.log_is fine)
    ∙ ap (λ (r : ValueRef). first_fail (digest_check hash image r ∷ [])) (sym (subst Q shows.log_is is))

pub value-fails : (hash : Hash) (image : Files) (log lengths : List ℕ) (id : ℕ) (keys : List (List ℕ)) (at : ℕ) (ref : ValueRef) → Shows image log lengths
    → first_fail (slot_checks_by log lengths id keys (slot_at log at)) ≡ Ok tt → ref ≡ (slot_at log at).ref
    → (e : OpenError) → Tells (digest_check hash image ref ∷ []) e → Tells (entry_checks hash image id keys at) e
value-fails hash image log lengths id keys at ref shows fine is Open.DiskFault h = tt
value-fails hash image log lengths id keys at ref shows fine is (Open.Damaged d) h = value-finds hash image log lengths id keys at ref shows fine is ∙ h
value-fails hash image log lengths id keys at ref shows fine is Open.Memory h = tt
