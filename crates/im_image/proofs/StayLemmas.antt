-- Octets that stay, from one stretch of a file to the next.
use Rattle.std.proofs.Common.{◌≡◌, ℕ, ◌+◌, ◌-◌, ◌<◌, ◌≤◌, min, List, length, get_or, take, drop, refl, ap, sym, subst, ◌∙◌, arith, ⊎_elim, not, true, false, Bool}
use Rattle.std.specs.Cmp.Lexicographic.{pointwise}
use Rattle.std.proofs.Math.Dec.{eqb}
use Rattle.std.proofs.lemmas.List.{length-take, length-drop, get_or-take, get_or-drop, ext_get_or}
use Rattle.std.proofs.lemmas.Bool.{cases_lt, false≢true, not-true, not-false}
use Rattle.std.proofs.lemmas.Bool.Decides.{Decides-eqb}
use Rattle.std.proofs.lemmas.Slice.Eq.{slice_eq-Decides}
use Rattle.im_image.specs.Remains.{IsOutside}
use Rattle.im_image.specs.declared.ranges.WrittenRange.{WrittenRange}

-- the octets of a file from a place on, as the program takes them
abbrev part : List ℕ → ℕ → ℕ → List ℕ
part left place n = take ((place + n) - place) (drop place left)

part-octet : (left : List ℕ) (place n k : ℕ) → k < n → get_or (part left place n) k 0 ≡ get_or left (place + k) 0
part-octet left place n k h = get_or-take ((place + n) - place) (drop place left) k 0 (omega arith) ∙ get_or-drop place left k 0

part-is : (left octets : List ℕ) (place : ℕ) → place + length octets ≤ length left
    → ((k : ℕ) → k < length octets → get_or left (place + k) 0 ≡ get_or octets k 0) → part left place (length octets) ≡ octets
part-is left octets place long same =
    let all : length (part left place (length octets)) ≡ min ((place + length octets) - place) (length (drop place left)) =
    length-take ((place + length octets) - place) (drop place left) in
    let rest = length-drop place left in
    let is_long : length (part left place (length octets)) ≡ length octets = omega arith in
    ext_get_or 0 (part left place (length octets)) octets is_long
    (λ k h. part-octet left place (length octets) k (omega arith) ∙ same k (omega arith))

-- what the program's comparison says
pub differs : (left octets : List ℕ) (place : ℕ) (unlike : Bool) → unlike ≡ not (pointwise eqb (part left place (length octets)) octets) → unlike ≡ true
    → place + length octets ≤ length left → ((k : ℕ) → k < length octets → get_or left (place + k) 0 ≡ get_or octets k 0) → ⊥
differs left octets place unlike is told long same =
    let equal : pointwise eqb (part left place (length octets)) octets ≡ true =
    (slice_eq-Decides Decides-eqb (part left place (length octets)) octets (pointwise eqb (part left place (length octets)) octets) refl).1 (part-is left octets place long same) in
    false≢true (sym (not-true (pointwise eqb (part left place (length octets)) octets) (sym is ∙ told)) ∙ equal)

pub agrees : (left octets : List ℕ) (place : ℕ) (unlike : Bool) → unlike ≡ not (pointwise eqb (part left place (length octets)) octets) → unlike ≡ false
    → (k : ℕ) → k < length octets → get_or left (place + k) 0 ≡ get_or octets k 0
agrees left octets place unlike is told k h =
    let equal : part left place (length octets) ≡ octets =
    (slice_eq-Decides Decides-eqb (part left place (length octets)) octets (pointwise eqb (part left place (length octets)) octets) refl).0
    (not-false (pointwise eqb (part left place (length octets)) octets) (sym is ∙ told)) in
    sym (part-octet left place (length octets) k h) ∙ ap (λ (l : List ℕ). get_or l k 0) equal

-- the octets below a place that lie in no range are the durable ones
pub record StaysBelow (ranges : List WrittenRange) (left durable : List ℕ) (place : ℕ) : Type 0 where
  pub same : (k : ℕ) → k < place → IsOutside ranges k → get_or left k 0 ≡ get_or durable k 0

-- a stretch of which each octet lies in some range, or is the durable one
pub stays-more : (ranges : List WrittenRange) (left durable : List ℕ) (place n : ℕ) → StaysBelow ranges left durable place
    → ((k : ℕ) → k < n → IsOutside ranges (place + k) → get_or left (place + k) 0 ≡ get_or durable (place + k) 0)
    → StaysBelow ranges left durable (place + n)
stays-more ranges left durable place n so_far here = record {
  same = λ k h out.
      ⊎_elim
      (λ (below : k < place). so_far.same k below out)
      (λ (from : place ≤ k).
      let at : place + (k - place) ≡ k = omega arith in
      subst (λ (j : ℕ). get_or left j 0 ≡ get_or durable j 0) at
      (here (k - place) (omega arith) (subst (λ (j : ℕ). IsOutside ranges j) (sym at) out)))
      (cases_lt k place);
}
