-- Numbers that are read stand as fields where they are read.
use Rattle.std.proofs.Common.{◌≡◌, ◌<◌, ◌≤◌, ◌+◌, ◌^◌, ℕ, FitsSigned, List, [], ◌∷◌, length, take, drop, arith, refl, sym, ◌∙◌, ap, get_or, subst, inl, inr, drop-cons}
use Rattle.std.specs.Prelude.{slice_index_or}
use Rattle.std.specs.Int.{w64, to_be_bytes, cast_signed, cast_unsigned}
use Rattle.std.proofs.Math.Facts.{sfits_to_z}
use Rattle.std.proofs.lemmas.Bool.{cases_lt}
use Rattle.std.proofs.lemmas.Int.{of_z-to_z}
use Rattle.std.proofs.lemmas.List.{length-take, get_or-drop, get_or-take, get_or_past}
use Rattle.std.proofs.lemmas.Nat.{be_bytes_2, be_bytes_4, be_bytes_8}
use Rattle.im_octet.specs.Fields.{field2, field4, field8, signed_field8}
use Rattle.im_format.specs.Reading.{number2, number4, number8}
use Rattle.im_format.specs.Spans.{octets_at}
use Rattle.im_record.specs.Back.{AreOctets, HasAt}
use Rattle.im_octet.proofs.FieldLemmas.{length-field2, length-field4, length-field8}
use Rattle.im_format.proofs.LengthLemmas.{length-octets}

-- are octets
pub octets-at : (log : List ℕ) (at n : ℕ) → AreOctets log → AreOctets (octets_at log at n)
octets-at log at n octets i = elim (cases_lt i n) [
  | inl below ↦ (
      let e : get_or (take n (drop at log)) i 0 ≡ get_or log (at + i) 0 = get_or-take n (drop at log) i 0 below ∙ get_or-drop at log i 0 in
      subst (λ k. k < 256) (sym e) (octets (at + i)))
  | inr past ↦ (
      let e : get_or (take n (drop at log)) i 0 ≡ 0 = get_or_past (take n (drop at log)) i 0 (omega (arith, length-take n (drop at log))) in
      subst (λ k. k < 256) (sym e) (omega arith))
]

-- and stand there
pub HasAt-octets : (log : List ℕ) (at n : ℕ) → at + n ≤ length log → HasAt log at (octets_at log at n)
HasAt-octets log at n h = record { has = ap (octets_at log at) (length-octets log at n h) }

-- so do the fields of numbers
pub HasAt-number2 : (log : List ℕ) (at : ℕ) → AreOctets log → at + 2 ≤ length log → HasAt log at (field2 (number2 log at))
unfolding number2 field2
HasAt-number2 log at octets h = record {
  has = ap (octets_at log at) (length-field2 (number2 log at))
      ∙ sym (be_bytes_2 (octets_at log at 2) (number2 log at) (length-octets log at 2 h) (octets-at log at 2 octets) refl);
}

pub HasAt-number4 : (log : List ℕ) (at : ℕ) → AreOctets log → at + 4 ≤ length log → HasAt log at (field4 (number4 log at))
unfolding number4 field4
HasAt-number4 log at octets h = record {
  has = ap (octets_at log at) (length-field4 (number4 log at))
      ∙ sym (be_bytes_4 (octets_at log at 4) (number4 log at) (length-octets log at 4 h) (octets-at log at 4 octets) refl);
}

pub HasAt-number8 : (log : List ℕ) (at : ℕ) → AreOctets log → at + 8 ≤ length log → HasAt log at (field8 (number8 log at))
unfolding number8 field8
HasAt-number8 log at octets h = record {
  has = ap (octets_at log at) (length-field8 (number8 log at))
      ∙ sym (be_bytes_8 (octets_at log at 8) (number8 log at) (length-octets log at 8 h) (octets-at log at 8 octets) refl);
}

-- a number of eight octets fits them
pub number8-fits : (log : List ℕ) (at : ℕ) → AreOctets log → number8 log at < 2 ^ 64
unfolding number8
number8-fits log at octets =
    let bs : List ℕ = octets_at log at 8 in
    let small : AreOctets bs = octets-at log at 8 octets in
    omega (arith, small 0, small 1, small 2, small 3, small 4, small 5, small 6, small 7)

-- a signed one too
pub HasAt-signed : (log : List ℕ) (at : ℕ) → AreOctets log → at + 8 ≤ length log → HasAt log at (signed_field8 (cast_signed w64 (number8 log at)))
unfolding signed_field8 field8
HasAt-signed log at octets h =
    let same : cast_unsigned w64 (cast_signed w64 (number8 log at)) ≡ number8 log at = of_z-to_z w64 (number8 log at) (number8-fits log at octets) in
    subst (λ (n : ℕ). HasAt log at (to_be_bytes w64 n)) (sym same) (HasAt-number8 log at octets h)

pub signed-fits : (log : List ℕ) (at : ℕ) → AreOctets log → FitsSigned w64 (cast_signed w64 (number8 log at))
signed-fits log at octets = sfits_to_z (record { fits = number8-fits log at octets })

-- and an octet
pub HasAt-octet : (log : List ℕ) (at : ℕ) → at + 1 ≤ length log → HasAt log at (slice_index_or log at 0 ∷ [])
HasAt-octet log at h = record { has = ap (take 1) (drop-cons log at 0 (omega arith)) }
