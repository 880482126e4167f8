-- Numbers of 2, 4 and 8 octets: read where their fields stand, and their fields where they are read.
use Rattle.std.proofs.Common.{◌≡◌, ◌<◌, ◌+◌, ◌^◌, ℕ, ℤ, List, [], ◌∷◌, drop, get_or, ap, sym, ◌∙◌, arith, FitsSigned}
use Rattle.std.specs.Int.{w16, w32, w64, from_be_bytes, cast_signed, cast_unsigned}
use Rattle.std.proofs.lemmas.Int.{to_z-of_z}
use Rattle.std.proofs.lemmas.List.{get_or-take, get_or-drop}
use Rattle.std.proofs.lemmas.Nat.{from_be_bytes-to_be_bytes_2, from_be_bytes-to_be_bytes_4, from_be_bytes-to_be_bytes_8}
use Rattle.std.proofs.Math.Facts.{Fits-of_z}
use Rattle.im_octet.specs.Fields.{field2, field4, field8, signed_field8}
use Rattle.im_format.specs.Reading.{number2, number4, number8}
use Rattle.im_format.specs.Spans.{octets_at}
use Rattle.im_format.proofs.HoldLemmas.{Holds}

-- a number is read where its field stands
pub number2-held : (log : List ℕ) (at n : ℕ) → n < 2 ^ 16 → Holds log at (field2 n) → number2 log at ≡ n
unfolding number2 field2
number2-held log at n fits h = ap (λ xs. from_be_bytes w16 xs) h.is ∙ from_be_bytes-to_be_bytes_2 n fits

pub number4-held : (log : List ℕ) (at n : ℕ) → n < 2 ^ 32 → Holds log at (field4 n) → number4 log at ≡ n
unfolding number4 field4
number4-held log at n fits h = ap (λ xs. from_be_bytes w32 xs) h.is ∙ from_be_bytes-to_be_bytes_4 n fits

pub number8-held : (log : List ℕ) (at n : ℕ) → n < 2 ^ 64 → Holds log at (field8 n) → number8 log at ≡ n
unfolding number8 field8
number8-held log at n fits h = ap (λ xs. from_be_bytes w64 xs) h.is ∙ from_be_bytes-to_be_bytes_8 n fits

-- so is one with a sign
pub signed-held : (log : List ℕ) (at : ℕ) (z : ℤ) → FitsSigned w64 z → Holds log at (signed_field8 z) → cast_signed w64 (number8 log at) ≡ z
unfolding number8 signed_field8
signed-held log at z fits h =
    ap (λ xs. cast_signed w64 (from_be_bytes w64 xs)) h.is
    ∙ ap (λ n. cast_signed w64 n) (from_be_bytes-to_be_bytes_8 (cast_unsigned w64 z) (Fits-of_z fits).fits)
    ∙ to_z-of_z w64 z fits

-- and an octet
pub octet-held : (log : List ℕ) (at n : ℕ) → Holds log at (n ∷ []) → get_or log at 0 ≡ n
octet-held log at n h =
    let here : get_or (octets_at log at 1) 0 0 ≡ n = ap (λ (xs : List ℕ). get_or xs 0 0) h.is in
    let same : at + 0 ≡ at = omega arith in
    sym (ap (λ i. get_or log i 0) same) ∙ sym (get_or-drop at log 0 0) ∙ sym (get_or-take 1 (drop at log) 0 0 (omega arith)) ∙ here
