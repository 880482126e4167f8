-- Octets that stand at a place of a file: split, and put together.
use Rattle.std.proofs.Common.{◌≡◌, ◌≤◌, ◌+◌, ℕ, List, ◌++◌, length, take, drop, refl, ap, subst, sym, ◌∙◌, arith, length-append}
use Rattle.std.proofs.lemmas.List.{take_at, drop_at, drop-drop, take-append-drop, take-take, drop-take}
use Rattle.im_format.specs.Spans.{octets_at}
use Rattle.im_format.proofs.LengthLemmas.{length-octets}

-- a file has these octets at a place, within its length
pub record Holds (log : List ℕ) (at : ℕ) (octets : List ℕ) : Type 0 where
  pub within : at + length octets ≤ length log
  pub is : octets_at log at (length octets) ≡ octets

-- so many octets, and then as many more
pub octets-both : (log : List ℕ) (at m n : ℕ) → octets_at log at (m + n) ≡ octets_at log at m ++ octets_at log (at + m) n
octets-both log at m n =
    let rest : List ℕ = drop at log in
    sym (take-append-drop m (take (m + n) rest))
    ∙ ap (λ xs. xs ++ drop m (take (m + n) rest)) (take-take m (m + n) rest (omega arith))
    ∙ ap (λ xs. take m rest ++ xs) (drop-take m n rest ∙ ap (λ xs. take n xs) (drop-drop m at log))

-- what stands there
pub holds-here : (log : List ℕ) (at n : ℕ) → at + n ≤ length log → Holds log at (octets_at log at n)
holds-here log at n h =
    let long : length (octets_at log at n) ≡ n = length-octets log at n h in
    record { within = omega arith; is = ap (λ m. octets_at log at m) long }

-- the first part of what stands there
pub holds-left : {log : List ℕ} {at : ℕ} → (x y : List ℕ) → Holds log at (x ++ y) → Holds log at x
holds-left {log} {at} x y h =
    let both : length (x ++ y) ≡ length x + length y = length-append x y in
    let within : at + length (x ++ y) ≤ length log = h.within in
    record {
      within = omega arith;
      is = sym (take-take (length x) (length (x ++ y)) (drop at log) (omega arith))
          ∙ ap (λ xs. take (length x) xs) h.is
          ∙ take_at x y (length x) refl;
    }

-- and the part behind it
pub holds-right : {log : List ℕ} {at : ℕ} → (x y : List ℕ) → Holds log at (x ++ y) → Holds log (at + length x) y
holds-right {log} {at} x y h =
    let both : length (x ++ y) ≡ length x + length y = length-append x y in
    let within : at + length (x ++ y) ≤ length log = h.within in
    record {
      within = omega arith;
      is = sym (ap (λ xs. take (length y) xs) (drop-drop (length x) at log))
          ∙ sym (drop-take (length x) (length y) (drop at log))
          ∙ ap (λ n. drop (length x) (take n (drop at log))) (sym both)
          ∙ ap (λ xs. drop (length x) xs) h.is
          ∙ drop_at x y (length x) refl;
    }

-- two parts, one behind the other
pub holds-both : {log : List ℕ} {at : ℕ} → (x y : List ℕ) → Holds log at x → Holds log (at + length x) y → Holds log at (x ++ y)
holds-both {log} {at} x y h k =
    let both : length (x ++ y) ≡ length x + length y = length-append x y in
    let within : (at + length x) + length y ≤ length log = k.within in
    record {
      within = omega arith;
      is = ap (λ n. octets_at log at n) both
          ∙ octets-both log at (length x) (length y)
          ∙ ap (λ xs. xs ++ octets_at log (at + length x) (length y)) h.is
          ∙ ap (λ xs. x ++ xs) k.is;
    }

-- at the same place, by another name
pub holds-at : {log : List ℕ} {at : ℕ} {octets : List ℕ} → (there : ℕ) → at ≡ there → Holds log at octets → Holds log there octets
holds-at {log} {at} {octets} there e h = subst (λ p. Holds log p octets) e h

-- the same octets, by another name
pub holds-same : {log : List ℕ} {at : ℕ} {octets : List ℕ} → (others : List ℕ) → octets ≡ others → Holds log at octets → Holds log at others
holds-same {log} {at} {octets} others e h = subst (λ x. Holds log at x) e h
