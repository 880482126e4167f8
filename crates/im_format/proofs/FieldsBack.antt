-- Where a file holds octets, the fields of the numbers that are read stand there.
use Rattle.std.proofs.Common.{◌≡◌, ◌<◌, ◌≤◌, ◌+◌, ◌^◌, ℕ, List, [], ◌∷◌, length, drop, get_or, refl, ap, sym, ◌∙◌, arith, All, inl, inr}
use Rattle.std.specs.Int.{w16, w32, w64, from_be_bytes, to_be_bytes, cast_signed, cast_unsigned}
use Rattle.std.proofs.lemmas.Bool.{cases_lt}
use Rattle.std.proofs.lemmas.Int.{of_z-to_z}
use Rattle.std.proofs.lemmas.List.{length-take, get_or-take, get_or-drop, get_or_past}
use Rattle.std.proofs.lemmas.Nat.{be_bytes_2, be_bytes_4, be_bytes_8}
use Rattle.im_octet.specs.Fields.{field2, field4, field8, signed_field8}
use Rattle.im_format.specs.Reading.{number2, number4, number8}
use Rattle.im_format.specs.Spans.{octets_at}
use Rattle.im_format.proofs.HoldLemmas.{Holds, holds-here, holds-same}
use Rattle.im_format.proofs.LengthLemmas.{length-octets}

-- a file holds octets
pub record IsSmall (log : List ℕ) : Type 0 where
  pub small : (i : ℕ) → get_or log i 0 < 256

pub small-all : (log : List ℕ) → All (λ octet. octet < 256) log → IsSmall log
small-all log h = record {
  small = λ i. elim (cases_lt i (length log)) [
    | inl l ↦ h i 0 l
    | inr g ↦ (let past : get_or log i 0 ≡ 0 = get_or_past log i 0 g in omega arith)
  ];
}

octets-small : (log : List ℕ) (at n : ℕ) → IsSmall log → (i : ℕ) → get_or (octets_at log at n) i 0 < 256
octets-small log at n h i = elim (cases_lt i n) [
  | inl l ↦ (
      let here : get_or (octets_at log at n) i 0 ≡ get_or log (at + i) 0 = get_or-take n (drop at log) i 0 l ∙ get_or-drop at log i 0 in
      let small : get_or log (at + i) 0 < 256 = h.small (at + i) in
      omega arith)
  | inr g ↦ (
      let size = length-take n (drop at log) in
      let past : get_or (octets_at log at n) i 0 ≡ 0 = get_or_past (octets_at log at n) i 0 (omega arith) in
      omega arith)
]

-- the field of a number that was read is what was read
pub field2-back : (log : List ℕ) (at : ℕ) → IsSmall log → at + 2 ≤ length log → Holds log at (field2 (number2 log at))
unfolding number2 field2
field2-back log at small h =
    holds-same (to_be_bytes w16 (from_be_bytes w16 (octets_at log at 2)))
    (sym (be_bytes_2 (octets_at log at 2) (from_be_bytes w16 (octets_at log at 2)) (length-octets log at 2 h) (octets-small log at 2 small) refl)) (holds-here log at 2 h)

pub field4-back : (log : List ℕ) (at : ℕ) → IsSmall log → at + 4 ≤ length log → Holds log at (field4 (number4 log at))
unfolding number4 field4
field4-back log at small h =
    holds-same (to_be_bytes w32 (from_be_bytes w32 (octets_at log at 4)))
    (sym (be_bytes_4 (octets_at log at 4) (from_be_bytes w32 (octets_at log at 4)) (length-octets log at 4 h) (octets-small log at 4 small) refl)) (holds-here log at 4 h)

pub field8-back : (log : List ℕ) (at : ℕ) → IsSmall log → at + 8 ≤ length log → Holds log at (field8 (number8 log at))
unfolding number8 field8
field8-back log at small h =
    holds-same (to_be_bytes w64 (from_be_bytes w64 (octets_at log at 8)))
    (sym (be_bytes_8 (octets_at log at 8) (from_be_bytes w64 (octets_at log at 8)) (length-octets log at 8 h) (octets-small log at 8 small) refl)) (holds-here log at 8 h)

fits-8 : (bs : List ℕ) → ((i : ℕ) → get_or bs i 0 < 256) → from_be_bytes w64 bs < 2 ^ 64
fits-8 bs small =
    let a = small 0 in
    let b = small 1 in
    let c = small 2 in
    let d = small 3 in
    let e = small 4 in
    let f = small 5 in
    let g = small 6 in
    let h = small 7 in
    omega arith

-- so is that of one with a sign
pub signed-back : (log : List ℕ) (at : ℕ) → IsSmall log → at + 8 ≤ length log → Holds log at (signed_field8 (cast_signed w64 (number8 log at)))
unfolding number8 signed_field8
signed-back log at small h =
    let bs : List ℕ = octets_at log at 8 in
    let n : ℕ = from_be_bytes w64 bs in
    let here : to_be_bytes w64 n ≡ bs = be_bytes_8 bs n (length-octets log at 8 h) (octets-small log at 8 small) refl in
    let same : cast_unsigned w64 (cast_signed w64 n) ≡ n = of_z-to_z w64 n (fits-8 bs (octets-small log at 8 small)) in
    holds-same (to_be_bytes w64 (cast_unsigned w64 (cast_signed w64 n))) (sym (ap (λ m. to_be_bytes w64 m) same ∙ here)) (holds-here log at 8 h)

one-octet : (xs : List ℕ) → length xs ≡ 1 → xs ≡ get_or xs 0 0 ∷ []
one-octet [] l = absurd (omega arith)
one-octet (x ∷ []) l = refl
one-octet (x ∷ y ∷ xs) l = absurd (omega arith)

-- and an octet
pub octet-back : (log : List ℕ) (at : ℕ) → at + 1 ≤ length log → Holds log at (get_or log at 0 ∷ [])
octet-back log at h =
    let long : length (octets_at log at 1) ≡ 1 = length-octets log at 1 h in
    let same : at + 0 ≡ at = omega arith in
    let first : get_or (octets_at log at 1) 0 0 ≡ get_or log at 0 = get_or-take 1 (drop at log) 0 0 (omega arith) ∙ get_or-drop at log 0 0 ∙ ap (λ i. get_or log i 0) same in
    holds-same (get_or log at 0 ∷ []) (one-octet (octets_at log at 1) long ∙ ap (λ (n : ℕ). n ∷ []) first) (holds-here log at 1 h)
