-- Octets that stand at a place of a log, and numbers read there.
use Rattle.std.proofs.Common.{◌≡◌, ◌<◌, ◌≤◌, ◌+◌, ◌^◌, ℕ, ℤ, FitsSigned, List, [], ◌∷◌, ◌++◌, length, take, drop, arith, sym, ◌∙◌, ap, length-append, append_assoc, get_or, subst}
use Rattle.std.specs.Prelude.{slice_index_or}
use Rattle.std.specs.Int.{w16, w32, w64, from_be_bytes, cast_signed, cast_unsigned}
use Rattle.std.proofs.Math.Facts.{Fits-of_z}
use Rattle.std.proofs.Math.Seq.{take-append_seam, drop-append_seam, take-add}
use Rattle.std.proofs.lemmas.Int.{to_z-of_z}
use Rattle.std.proofs.lemmas.List.{drop-drop, drop-take, take-take, length-take, length-drop, get_or-drop, get_or-take}
use Rattle.std.proofs.lemmas.Nat.{from_be_bytes-to_be_bytes_2, from_be_bytes-to_be_bytes_4, from_be_bytes-to_be_bytes_8}
use Rattle.im_octet.specs.Fields.{field2, field4, field8, signed_field8}
use Rattle.im_format.specs.Reading.{number2, number4, number8}
use Rattle.im_record.specs.Back.{HasAt}

-- the front of what stands at a place
pub HasAt-front : (log : List ℕ) (at : ℕ) (a b : List ℕ) → HasAt log at (a ++ b) → HasAt log at a
HasAt-front log at a b h = record {
  has =
      let n : ℕ = length a in
      let short : n ≤ length (a ++ b) = omega (arith, length-append a b) in
      sym (take-take n (length (a ++ b)) (drop at log) short) ∙ ap (take n) h.has ∙ take-append_seam a b;
}

-- and what stands behind it
pub HasAt-back : (log : List ℕ) (at : ℕ) (a b : List ℕ) → HasAt log at (a ++ b) → HasAt log (at + length a) b
HasAt-back log at a b h = record {
  has =
      let n : ℕ = length a in
      let rest : ℕ = length b in
      sym (ap (take rest) (drop-drop n at log)) ∙ sym (drop-take n rest (drop at log))
      ∙ ap (λ k. drop n (take k (drop at log))) (sym (length-append a b)) ∙ ap (drop n) h.has ∙ drop-append_seam a b;
}

-- one behind the other
pub HasAt-both : (log : List ℕ) (at : ℕ) (a b : List ℕ) → HasAt log at a → HasAt log (at + length a) b → HasAt log at (a ++ b)
HasAt-both log at a b g h = record {
  has =
      let n : ℕ = length a in
      let rest : ℕ = length b in
      ap (λ k. take k (drop at log)) (length-append a b) ∙ take-add n rest (drop at log)
      ∙ ap (λ xs. xs ++ take rest (drop n (drop at log))) g.has
      ∙ ap (λ xs. a ++ take rest xs) (drop-drop n at log) ∙ ap (λ xs. a ++ xs) h.has;
}

-- what stands at a place is within the log
pub HasAt-within : (log : List ℕ) (at : ℕ) (a : List ℕ) → HasAt log at a → 1 ≤ length a → at + length a ≤ length log
HasAt-within log at a h some =
    omega (arith, ap length h.has, length-take (length a) (drop at log), length-drop at log)

-- what is put between others stands behind the first
pub HasAt-between : (before octets rest : List ℕ) → HasAt (before ++ octets ++ rest) (length before) octets
HasAt-between before octets rest = record {
  has =
      ap (λ xs. take (length octets) (drop (length before) xs)) (append_assoc before octets rest)
      ∙ ap (take (length octets)) (drop-append_seam before (octets ++ rest)) ∙ take-append_seam octets rest;
}

-- at an equal place
pub HasAt-moved : (log : List ℕ) (at to : ℕ) (a : List ℕ) → HasAt log at a → at ≡ to → HasAt log to a
HasAt-moved log at to a h e = subst (λ k. HasAt log k a) e h

-- numbers
pub number2-field : (log : List ℕ) (at n : ℕ) → n < 2 ^ 16 → HasAt log at (field2 n) → number2 log at ≡ n
unfolding number2 field2
number2-field log at n fits h = ap (from_be_bytes w16) h.has ∙ from_be_bytes-to_be_bytes_2 n fits

pub number4-field : (log : List ℕ) (at n : ℕ) → n < 2 ^ 32 → HasAt log at (field4 n) → number4 log at ≡ n
unfolding number4 field4
number4-field log at n fits h = ap (from_be_bytes w32) h.has ∙ from_be_bytes-to_be_bytes_4 n fits

pub number8-field : (log : List ℕ) (at n : ℕ) → n < 2 ^ 64 → HasAt log at (field8 n) → number8 log at ≡ n
unfolding number8 field8
number8-field log at n fits h = ap (from_be_bytes w64) h.has ∙ from_be_bytes-to_be_bytes_8 n fits

pub signed-field : (log : List ℕ) (at : ℕ) (z : ℤ) → FitsSigned w64 z → HasAt log at (signed_field8 z) → cast_signed w64 (number8 log at) ≡ z
unfolding number8 signed_field8
signed-field log at z fits h =
    ap (λ bs. cast_signed w64 (from_be_bytes w64 bs)) h.has
    ∙ ap (cast_signed w64) (from_be_bytes-to_be_bytes_8 (cast_unsigned w64 z) (Fits-of_z fits).fits) ∙ to_z-of_z w64 z fits

-- an octet
pub octet-at : (log : List ℕ) (at n : ℕ) → HasAt log at (n ∷ []) → slice_index_or log at 0 ≡ n
octet-at log at n h =
    let one : get_or (take 1 (drop at log)) 0 0 ≡ n = ap (λ xs. get_or xs 0 0) h.has in
    let same : at ≡ at + 0 = omega arith in
    ap (λ k. get_or log k 0) same ∙ sym (get_or-drop at log 0 0) ∙ sym (get_or-take 1 (drop at log) 0 0 (omega arith)) ∙ one
