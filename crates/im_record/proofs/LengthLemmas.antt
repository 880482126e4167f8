-- The checks of an entry by the lengths of the value logs.
use Rattle.std.proofs.Common.{◌≡◌, ◌≤◌, ◌+◌, ◌-◌, ◌*◌, ◌^◌, ℕ, Bool, false, List, [], ◌∷◌, ◌++◌, length, ap, sym, ◌∙◌, inl, inr}
use Rattle.std.specs.Prelude.{nat_le, slice_index_or}
use Rattle.std.proofs.lemmas.Bool.{cases_lt, lt-leb}
use Rattle.im_disk.specs.Disk.{Files}
use Rattle.im_mtree.specs.Checks.{Check, first_fail}
use Rattle.im_format.specs.Damages.{numbers, reaches, slot_checks, slot_key_checks, slot_md_checks, slot_ref_checks}
use Rattle.im_format.specs.Reading.{Slot, slot_at}
use Rattle.im_format.specs.declared.damages.Damage.{Damage}
use Rattle.im_format.specs.declared.references.ValueRef.{ValueRef}
use Rattle.im_record.specs.Slots.{HaveLengths, ref_part, slot_checks_by}
use Rattle.im_mtree.proofs.CheckLemmas.{fail_both, then_check}

-- the checks of a reference of transaction id, where its log is one, and has so many octets
abbrev pub ref_list : List ℕ → ℕ → ℕ → ValueRef → Bool → ℕ → List (Check Damage)
ref_list log id at ref one size =
    reaches log at 32
    ∷ reaches log (at + 32) 4
    ∷ (nat_le ref.len 4096, numbers 0 (at + 32) 4096 ref.len)
    ∷ reaches log (at + 36) 1
    ∷ (one, numbers 0 (at + 36) 3 ref.log)
    ∷ reaches log (at + 37) 8
    ∷ (nat_le ref.at (id * 2 ^ 22 - ref.len), numbers 0 (at + 37) (id * 2 ^ 22 - ref.len) ref.at)
    ∷ (nat_le (ref.at + ref.len) size, numbers 0 (at + 37) (ref.at + ref.len) size)
    ∷ []

-- the size of no log matters
ref-same : (log : List ℕ) (id at : ℕ) (ref : ValueRef) (m n : ℕ) → (ref.log ≤ 3 → m ≡ n)
    → first_fail (ref_list log id at ref (nat_le ref.log 3) m) ≡ first_fail (ref_list log id at ref (nat_le ref.log 3) n)
ref-same log id at ref m n same = elim (cases_lt 3 ref.log) [
  | inl past ↦ (
      let none : nat_le ref.log 3 ≡ false = lt-leb ref.log 3 past in
      ap (λ (b : Bool). first_fail (ref_list log id at ref b m)) none ∙ sym (ap (λ (b : Bool). first_fail (ref_list log id at ref b n)) none))
  | inr within ↦ ap (λ (k : ℕ). first_fail (ref_list log id at ref (nat_le ref.log 3) k)) (same within)
]

-- where others find the same behind some checks
fail-behind : (a b c : List (Check Damage)) → first_fail b ≡ first_fail c → first_fail (a ++ b) ≡ first_fail (a ++ c)
fail-behind a b c e = fail_both a b ∙ ap (λ r. then_check (first_fail a) r) e ∙ sym (fail_both a c)

-- what is found in an image is what is found by the lengths
pub lengths-serve : (image : Files) (logs : List ℕ) (id : ℕ) (keys : List (List ℕ)) (at : ℕ) → HaveLengths image logs
    → first_fail (slot_checks image id keys (slot_at (image 0) at)) ≡ first_fail (slot_checks_by (image 0) logs id keys (slot_at (image 0) at))
unfolding slot_at
lengths-serve image logs id keys at have =
    let s : Slot = slot_at (image 0) at in
    let place : ℕ = s.start + 4 + s.md_len + s.key_len in
    fail-behind (slot_md_checks (image 0) s) (slot_key_checks (image 0) keys s ++ slot_ref_checks image id s)
    (slot_key_checks (image 0) keys s ++ ref_part (image 0) logs id place)
    (fail-behind (slot_key_checks (image 0) keys s) (slot_ref_checks image id s) (ref_part (image 0) logs id place)
    (ref-same (image 0) id place s.ref (length (image (2 + s.ref.log))) (slice_index_or logs s.ref.log 0) (have s.ref.log)))
