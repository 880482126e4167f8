-- The keys of a table's indexes rise with the numbers of the indexes.
use Rattle.std.proofs.Common.{◌≡◌, ◌≤◌, ◌<◌, ◌+◌, ◌^◌, inl, inr, ℕ, zero, suc, List, [], ◌∷◌, ◌++◌, length, get_or, refl, sym, ap, ◌∙◌, subst, arith}
use Rattle.std.proofs.lemmas.Bool.{cases_order}
use Rattle.std.proofs.lemmas.List.{append-nil}
use Rattle.std.specs.Cmp.{nat_cmp_is}
use Rattle.std.specs.Int.{byte_at, bytes_high_first}
use Rattle.std.specs.Ordering.{ordering_then, nat_cmp}
use Rattle.std.specs.declared.cmp.Ordering.{Ordering}
use Rattle.std.specs.declared.cmp.Ordering.TheVariants.{Less, Equal}
use Rattle.im_octet.specs.Fields.{field4, field8}
use Rattle.im_versions.specs.Versions.{IsBelow}
use Rattle.im_versions.proofs.VersionLemmas.{below-strict}
use Rattle.im_sqltype.specs.Orders.{octets_cmp}
use Rattle.im_sqltype.proofs.FieldLemmas.{field8-order}
use Rattle.im_sqltype.specs.Total.{then-Equal}
use Rattle.im_sqlmodel.specs.Keys.{index_prefix, index_key}

-- a number of four octets in eight
field-long : (n : ℕ) → n < 2 ^ 32 → field8 n ≡ 0 ∷ 0 ∷ 0 ∷ 0 ∷ field4 n
unfolding field8 field4
field-long n fits =
    let a : byte_at 7 n ≡ 0 = omega (arith, fits) in
    let b : byte_at 6 n ≡ 0 = omega (arith, fits) in
    let c : byte_at 5 n ≡ 0 = omega (arith, fits) in
    let d : byte_at 4 n ≡ 0 = omega (arith, fits) in
    λ i. a i ∷ b i ∷ c i ∷ d i ∷ bytes_high_first 4 n

field4-order : (m n : ℕ) → m < 2 ^ 32 → n < 2 ^ 32 → octets_cmp (field4 m) (field4 n) ≡ nat_cmp m n
field4-order m n p q =
    (λ i. octets_cmp (longer m p i) (longer n q i))
    ∙ field8-order m n [] [] (omega (arith, p)) (omega (arith, q))
    ∙ then-Equal (nat_cmp m n)
  where
    longer : (k : ℕ) → k < 2 ^ 32 → 0 ∷ 0 ∷ 0 ∷ 0 ∷ field4 k ≡ field8 k ++ []
    longer k fits = sym (field-long k fits) ∙ sym (append-nil (field8 k))

-- what two keys begin with alike says nothing of their order
front-order : (front a b : List ℕ) → octets_cmp (front ++ a) (front ++ b) ≡ octets_cmp a b
front-order [] a b = refl
front-order (x ∷ xs) a b = ap (λ (o : Ordering). ordering_then o (octets_cmp (xs ++ a) (xs ++ b))) (sym (nat_cmp_is x x Equal refl)) ∙ front-order xs a b

pub index-less : (tid m n : ℕ) → m < 2 ^ 32 → n < 2 ^ 32 → IsBelow (index_key tid m) (index_key tid n) → m < n
index-less tid m n p q below = elim (cases_order m n) [
  | inl same ↦ absurd (let itself : IsBelow (index_key tid n) (index_key tid n) = subst (λ (k : ℕ). IsBelow (index_key tid k) (index_key tid n)) same below in
      below-strict (index_key tid n) (index_key tid n) itself itself)
  | inr (inl less) ↦ less
  | inr (inr more) ↦ absurd (below-strict (index_key tid m) (index_key tid n) below
      (front-order (index_prefix tid) (field4 n) (field4 m) ∙ field4-order n m q p ∙ sym (nat_cmp_is n m Less more)))
]

-- ---- rising numbers without gaps run from 1

-- in a list of rising numbers of which the first is 1 or more, each is above its place
above-place : {A : Type 0} (g : A → ℕ) (xs : List A) (d : A) → ((k : ℕ) → k < length xs → 1 ≤ g (get_or xs k d)) → ((j k : ℕ) → j < k → k < length xs → g (get_or xs j d) < g (get_or xs k d))
    → (k : ℕ) → k < length xs → k + 1 ≤ g (get_or xs k d)
above-place g xs d some rising zero l = some 0 l
above-place g xs d some rising (suc k) l =
    let before : k + 1 ≤ g (get_or xs k d) = above-place g xs d some rising k (omega (arith, l)) in
    let less : g (get_or xs k d) < g (get_or xs (suc k) d) = rising k (suc k) (omega arith) l in
    omega (arith, before, less)

-- where a number below each is there as well, each is that of its place
pub at-place : {A : Type 0} (g : A → ℕ) (xs : List A) (d : A) → ((k : ℕ) → k < length xs → 1 ≤ g (get_or xs k d)) → ((j k : ℕ) → j < k → k < length xs → g (get_or xs j d) < g (get_or xs k d))
    → ((k n : ℕ) → k < length xs → 1 ≤ n → n ≤ g (get_or xs k d) → (j : ℕ) × (j < length xs) × (g (get_or xs j d) ≡ n))
    → (most k : ℕ) → k < most → k < length xs → g (get_or xs k d) ≡ k + 1
at-place g xs d some rising there zero k less l = absurd (let no : ⊥ = omega (arith, less) in no)
at-place g xs d some rising there (suc most) k less l =
    let high : k + 1 ≤ g (get_or xs k d) = above-place g xs d some rising k l in
    let found = there k (k + 1) l (omega arith) high in
    let number : g (get_or xs found.0 d) ≡ k + 1 = found.2 in
    elim (cases_order found.0 k) [
      | inl same ↦ ap (λ (j : ℕ). g (get_or xs j d)) (sym same) ∙ number
      | inr (inl before) ↦ (
          let own : g (get_or xs found.0 d) ≡ found.0 + 1 = at-place g xs d some rising there most found.0 (omega (arith, before, less)) found.1 in
          absurd (let no : ⊥ = omega (arith, own, number, before) in no))
      | inr (inr behind) ↦ (
          let more : g (get_or xs k d) < g (get_or xs found.0 d) = rising k found.0 behind found.1 in
          omega (arith, high, more, number))
    ]
