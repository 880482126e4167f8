-- The checks of an entry as those of its parts.
use Rattle.std.proofs.Common.{◌≡◌, ℕ, ◌+◌, List, ◌++◌, refl, ap, sym, ◌∙◌, arith, Result, Ok}
use Rattle.im_mtree.specs.Checks.{Check, first_fail}
use Rattle.im_format.specs.Damages.{slot_key_checks}
use Rattle.im_format.specs.Reading.{number2, slot_at}
use Rattle.im_format.specs.declared.damages.Damage.{Damage}
use Rattle.im_record.specs.Slots.{md_part, key_part, ref_part, slot_checks_by}
use Rattle.im_mtree.proofs.CheckLemmas.{fail_append}

-- the checks of the key
pub key-part : (log : List ℕ) (keys : List (List ℕ)) (at : ℕ)
    → slot_key_checks log keys (slot_at log at) ≡ key_part log keys (at + 2 + number2 log at)
unfolding slot_at
key-part log keys at =
    let e : at + 4 + number2 log at ≡ at + 2 + number2 log at + 2 = omega arith in
    rw e refl

-- the checks of an entry are those of its parts, one behind the other
pub slot_parts : (log logs : List ℕ) (id : ℕ) (keys : List (List ℕ)) (at md key : ℕ) → md ≡ number2 log at → key ≡ number2 log (at + 2 + md)
    → slot_checks_by log logs id keys (slot_at log at)
    ≡ md_part log at ++ (key_part log keys (at + 2 + md) ++ ref_part log logs id (at + 2 + md + 2 + key))
unfolding slot_at
slot_parts log logs id keys at md key m k =
    let md_len : ℕ = number2 log at in
    let e : at + 4 + md_len ≡ at + 2 + md_len + 2 = omega arith in
    let size : key ≡ number2 log (at + 2 + md_len) = k ∙ ap (λ (j : ℕ). number2 log (at + 2 + j)) m in
    let place : at + 4 + md_len + number2 log (at + 2 + md_len) ≡ at + 2 + md + 2 + key = omega (arith, m, size) in
    ap (λ (xs : List (Check Damage)). md_part log at ++ (xs ++ ref_part log logs id (at + 4 + md_len + number2 log (at + 2 + md_len)))) (key-part log keys at)
    ∙ ap (λ (j : ℕ). md_part log at ++ (key_part log keys (at + 2 + j) ++ ref_part log logs id (at + 4 + md_len + number2 log (at + 2 + md_len)))) (sym m)
    ∙ ap (λ (j : ℕ). md_part log at ++ (key_part log keys (at + 2 + md) ++ ref_part log logs id j)) place

-- what is found in an entry whose metadata and key hold: what is found in its reference
pub slot_finds : (log logs : List ℕ) (id : ℕ) (keys : List (List ℕ)) (at md key : ℕ) (r : Result (Unit {0}) Damage)
    → md ≡ number2 log at → key ≡ number2 log (at + 2 + md)
    → first_fail (md_part log at) ≡ Ok tt → first_fail (key_part log keys (at + 2 + md)) ≡ Ok tt
    → first_fail (ref_part log logs id (at + 2 + md + 2 + key)) ≡ r
    → first_fail (slot_checks_by log logs id keys (slot_at log at)) ≡ r
slot_finds log logs id keys at md key r m k one two three =
    ap first_fail (slot_parts log logs id keys at md key m k)
    ∙ fail_append (md_part log at) (key_part log keys (at + 2 + md) ++ ref_part log logs id (at + 2 + md + 2 + key)) one
    ∙ fail_append (key_part log keys (at + 2 + md)) (ref_part log logs id (at + 2 + md + 2 + key)) two ∙ three
