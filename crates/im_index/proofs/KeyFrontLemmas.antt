-- Keys whose fronts differ are in the order of these.
use Rattle.std.proofs.Common.{◌≡◌, ◌<◌, ◌≤◌, ◌+◌, ◌*◌, ◌^◌, ℕ, zero, suc, List, [], ◌∷◌, get_or, refl, ap, sym, subst, ◌∙◌, arith, inl, inr}
use Rattle.std.proofs.Math.Nat.{pow-succ', mul_assoc, mul_comm}
use Rattle.std.proofs.lemmas.Bool.{cases_lt, cases_order}
use Rattle.std.proofs.lemmas.Cmp.{nat_cmp_total, nat_list_cmp_total}
use Rattle.std.specs.Cmp.Lexicographic.{slice_cmp}
use Rattle.std.specs.Ordering.{nat_cmp, ordering_reverse, ordering_then}
use Rattle.std.specs.declared.cmp.Ordering.TheVariants.{Less, Equal}
use Rattle.im_index.proofs.PrefixLemmas.{nat-equal, nat-less}
use Rattle.im_index.specs.Fronts.{IsFront, leading}

-- they are octets
abbrev AreOctets : List ℕ → Type 0
AreOctets xs = (i : ℕ) → get_or xs i 0 < 256

rest-octets : (x : ℕ) (xs : List ℕ) → AreOctets (x ∷ xs) → AreOctets xs
rest-octets x xs octets i = octets (suc i)

below-product : (x y p : ℕ) → x < y → x * p + p ≤ y * p
below-product x zero p l = absurd (omega arith)
below-product zero (suc y) p l = omega arith
below-product (suc x) (suc y) p l =
    let rest : x * p + p ≤ y * p = below-product x y p (omega arith) in omega arith

-- k octets are a number of k digits of base 256
leading-below : (k : ℕ) (xs : List ℕ) → AreOctets xs → leading k xs < 256 ^ k
unfolding leading
leading-below zero xs octets = omega arith
leading-below (suc k) [] octets =
    let some : leading k [] < 256 ^ k = leading-below k [] octets in omega arith
leading-below (suc k) (x ∷ xs) octets =
    let head : x < 256 = octets 0 in
    let rest : leading k xs < 256 ^ k = leading-below k xs (rest-octets x xs octets) in
    let most : x * 256 ^ k + 256 ^ k ≤ 256 * 256 ^ k = below-product x 256 (256 ^ k) head in omega arith

-- one octet more is one digit more
pub leading-more : (k : ℕ) (xs : List ℕ) → leading (suc k) xs ≡ leading k xs * 256 + get_or xs k 0
unfolding leading
leading-more zero [] = omega arith
leading-more zero (x ∷ xs) = omega arith
leading-more (suc k) [] = omega arith
leading-more (suc k) (x ∷ xs) =
    let rest : leading (suc k) xs ≡ leading k xs * 256 + get_or xs k 0 = leading-more k xs in
    let power : x * 256 ^ suc k ≡ x * 256 ^ k * 256 =
    ap (λ p. x * p) (pow-succ' 256 k ∙ mul_comm 256 (256 ^ k)) ∙ sym (mul_assoc x (256 ^ k) 256) in omega arith

rising : (k n : ℕ) (xs : List ℕ) → k ≤ n → leading k xs ≤ leading n xs
rising k zero xs l =
    let none : k ≡ zero = omega arith in subst (λ (m : ℕ). leading m xs ≤ leading zero xs) (sym none) (omega arith)
rising k (suc n) xs l = elim (cases_lt k (suc n)) [
  | inl less ↦ (
      let rest : leading k xs ≤ leading n xs = rising k n xs (omega arith) in
      let more : leading (suc n) xs ≡ leading n xs * 256 + get_or xs n 0 = leading-more n xs in omega arith)
  | inr not-less ↦ (
      let same : k ≡ suc n = omega arith in subst (λ (m : ℕ). leading m xs ≤ leading (suc n) xs) (sym same) (omega arith))
]

-- seven octets and one more fit
pub leading-fits : (k : ℕ) (xs : List ℕ) → AreOctets xs → k < 8 → leading k xs < 256 ^ 7
leading-fits k xs octets l =
    let most : leading k xs ≤ leading 7 xs = rising k 7 xs (omega arith) in
    let below : leading 7 xs < 256 ^ 7 = leading-below 7 xs octets in omega arith

lower-leading : (k : ℕ) (xs ys : List ℕ) → AreOctets xs → AreOctets ys → leading k xs < leading k ys → slice_cmp nat_cmp xs ys ≡ Less
unfolding leading
lower-leading zero xs ys a b l = absurd (omega arith)
lower-leading (suc k) [] [] a b l = absurd (omega arith)
lower-leading (suc k) [] (y ∷ ys) a b l = refl
lower-leading (suc k) (x ∷ xs) [] a b l = absurd (omega arith)
lower-leading (suc k) (x ∷ xs) (y ∷ ys) a b l = elim (cases_order x y) [
  | inl same ↦ (
      let product : x * 256 ^ k ≡ y * 256 ^ k = ap (λ n. n * 256 ^ k) same in
      let rest : leading k xs < leading k ys = omega arith in
      ap (λ n. ordering_then (nat_cmp x n) (slice_cmp nat_cmp xs ys)) (sym same)
      ∙ ap (λ o. ordering_then o (slice_cmp nat_cmp xs ys)) (nat-equal x)
      ∙ lower-leading k xs ys (rest-octets x xs a) (rest-octets y ys b) rest)
  | inr other ↦ elim other [
    | inl less ↦ ap (λ o. ordering_then o (slice_cmp nat_cmp xs ys)) (nat-less x y less)
    | inr more ↦ (
        let product : y * 256 ^ k + 256 ^ k ≤ x * 256 ^ k = below-product y x (256 ^ k) more in
        let bound : leading k ys < 256 ^ k = leading-below k ys (rest-octets y ys b) in
        absurd (omega arith))
  ]
]

-- the order of fronts that differ is that of the keys
pub by-fronts : (a b : ℕ) (xs ys : List ℕ) → IsFront a xs → IsFront b ys → (nat_cmp a b ≡ Equal → ⊥) → nat_cmp a b ≡ slice_cmp nat_cmp xs ys
by-fronts a b xs ys f g apart = elim (cases_order a b) [
  | inl same ↦ absurd (apart (ap (λ n. nat_cmp a n) (sym same) ∙ nat-equal a))
  | inr other ↦ elim other [
    | inl less ↦ nat-less a b less ∙ sym (lower-leading 8 xs ys f.octets g.octets (omega (arith, less, f.front_is, g.front_is)))
    | inr more ↦ (
        let lower : slice_cmp nat_cmp ys xs ≡ Less = lower-leading 8 ys xs g.octets f.octets (omega (arith, more, f.front_is, g.front_is)) in
        nat_cmp_total.antisymm a b ∙ ap ordering_reverse (nat-less b a more)
        ∙ sym (nat_list_cmp_total.antisymm xs ys ∙ ap ordering_reverse lower))
  ]
]
