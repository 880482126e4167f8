-- Splits, and roots over parts of a list.
use Rattle.std.proofs.Common.{◌≡◌, ◌<◌, ◌≤◌, length, ℕ, suc, zero, ◌+◌, ◌-◌, ◌*◌, ◌^◌, List, [], ◌∷◌, take, drop, refl, arith, ap, subst, ◌∙◌, sym, nat_lt, true, false, if◌then◌else◌, length-drop, get_or, inl, inr}
use Rattle.std.proofs.lemmas.List.{length-take-le}
use Rattle.std.proofs.Math.Nat.{pow-succ'}
use Rattle.std.proofs.lemmas.Bool.{ltb-true, lt-ltb, le-ltb, cases_lt}
use Rattle.im_digest.specs.Digests.{Hash}
use Rattle.im_model.specs.Trees.{leaf, node, doubled_below, split_of, root_within, root}

-- where twice k reaches n, k stays
pub doubled-stop : (room k n : ℕ) → n ≤ 2 * k → doubled_below room k n ≡ k
unfolding doubled_below
doubled-stop zero k n h = refl
doubled-stop (suc room) k n h = ap (λ b. if b then doubled_below room (2 * k) n else k) (le-ltb (2 * k) n h)

-- where twice k is below n, k is doubled
pub doubled-step : (room k n : ℕ) → 2 * k < n → doubled_below (suc room) k n ≡ doubled_below room (2 * k) n
unfolding doubled_below
doubled-step room k n h = ap (λ b. if b then doubled_below room (2 * k) n else k) (lt-ltb (2 * k) n h)

-- k doubled below n stays above 0 and below n
pub doubled-within : (room k n : ℕ) → 0 < k → k < n → (0 < doubled_below room k n) × (doubled_below room k n < n)
unfolding doubled_below
doubled-within zero k n p h = (p, h)
doubled-within (suc room) k n p h =
    elim (nat_lt (2 * k) n) as (λ b. (nat_lt (2 * k) n ≡ b) →
    (0 < (if b then doubled_below room (2 * k) n else k)) × ((if b then doubled_below room (2 * k) n else k) < n)) [
      | true ↦ λ e. doubled-within room (2 * k) n (omega arith) (ltb-true (2 * k) n e)
      | false ↦ λ e. (p, h)
    ] refl

-- one turn of a loop that doubles k
pub doubled-next : (k n w : ℕ) → 0 < k → 2 * k < n → (room : ℕ) → n ≤ room + k → doubled_below room k n ≡ w
    → (room : ℕ) × (n ≤ room + k * 2) × (doubled_below room (k * 2) n ≡ w)
doubled-next k n w p h zero b e = absurd (omega arith)
doubled-next k n w p h (suc room) b e =
    let twice : k * 2 ≡ 2 * k = omega arith in
    (room, omega arith, ap (λ j. doubled_below room j n) twice ∙ sym (doubled-step room k n h) ∙ e)

-- doubling never makes k smaller
pub doubled-least : (room k n : ℕ) → k ≤ doubled_below room k n
unfolding doubled_below
doubled-least zero k n = omega arith
doubled-least (suc room) k n =
    elim (nat_lt (2 * k) n) as (λ b. k ≤ (if b then doubled_below room (2 * k) n else k)) [
      | true ↦ (let up : 2 * k ≤ doubled_below room (2 * k) n = doubled-least room (2 * k) n in omega arith)
      | false ↦ omega arith
    ]

-- between k doubled below n and n, k doubled below m is the same
pub doubled-same : (more k n room m : ℕ) → 0 < k → n ≤ more + k → m ≤ room + k → m ≤ n → doubled_below more k n < m → doubled_below room k m ≡ doubled_below more k n
unfolding doubled_below
doubled-same zero k n room m p a b c h = absurd (omega arith)
doubled-same (suc more) k n zero m p a b c h =
    absurd (let least : k ≤ doubled_below (suc more) k n = doubled-least (suc more) k n in omega arith)
doubled-same (suc more) k n (suc room) m p a b c h =
    elim (cases_lt (2 * k) n) [
      | inl l ↦ (
          let step : doubled_below (suc more) k n ≡ doubled_below more (2 * k) n = doubled-step more k n l in
          let least : 2 * k ≤ doubled_below more (2 * k) n = doubled-least more (2 * k) n in
          let under : 2 * k < m = omega arith in
          doubled-step room k m under ∙ doubled-same more (2 * k) n room m (omega arith) (omega arith) (omega arith) c (omega arith) ∙ sym step)
      | inr g ↦ doubled-stop (suc room) k m (omega arith) ∙ sym (doubled-stop (suc more) k n g)
    ]

-- a power of two that is doubled is one
pub doubled-power : (room k n e : ℕ) → k ≡ 2 ^ e → (f : ℕ) × (doubled_below room k n ≡ 2 ^ f)
unfolding doubled_below
doubled-power zero k n e h = (e, h)
doubled-power (suc room) k n e h =
    elim (nat_lt (2 * k) n) as (λ b. (f : ℕ) × ((if b then doubled_below room (2 * k) n else k) ≡ 2 ^ f)) [
      | true ↦ doubled-power room (2 * k) n (suc e) (ap (λ j. 2 * j) h ∙ sym (pow-succ' 2 e))
      | false ↦ (e, h)
    ]

-- with room enough, twice the doubled k reaches n
pub doubled-reaches : (room k n : ℕ) → 0 < k → n ≤ room + k → n ≤ 2 * doubled_below room k n
doubled-reaches zero k n p h =
    let least : k ≤ doubled_below zero k n = doubled-least zero k n in omega arith
doubled-reaches (suc room) k n p h =
    elim (cases_lt (2 * k) n) [
      | inl l ↦ (
          let step : doubled_below (suc room) k n ≡ doubled_below room (2 * k) n = doubled-step room k n l in
          let more : n ≤ 2 * doubled_below room (2 * k) n = doubled-reaches room (2 * k) n (omega arith) (omega arith) in
          omega arith)
      | inr g ↦ (let stop : doubled_below (suc room) k n ≡ k = doubled-stop (suc room) k n g in omega arith)
    ]

-- the split of n lies between 0 and n
pub split-within : (n : ℕ) → 1 < n → (0 < split_of n) × (split_of n < n)
unfolding split_of
split-within n h = doubled-within n 1 n (omega arith) h

-- the split of n is also that of each size above it, up to n
pub split-same : (m n : ℕ) → 1 < n → m ≤ n → split_of n < m → split_of m ≡ split_of n
unfolding split_of
split-same m n o c h = doubled-same n 1 n m m (omega arith) (omega arith) (omega arith) c h

-- the split of n is a power of two
pub split-power : (n : ℕ) → (e : ℕ) × (split_of n ≡ 2 ^ e)
unfolding split_of
split-power n = doubled-power n 1 n 0 refl

-- twice the split of n reaches n
pub split-reaches : (n : ℕ) → n ≤ 2 * split_of n
unfolding split_of
split-reaches n = doubled-reaches n 1 n (omega arith) (omega arith)

-- more room doesn't change a root
pub root-room : (a b : ℕ) (hash : Hash) (digests : List (List ℕ)) → length digests ≤ a → length digests ≤ b → root_within a hash digests ≡ root_within b hash digests
unfolding root_within
root-room zero zero hash digests p q = refl
root-room zero (suc b) hash [] p q = refl
root-room zero (suc b) hash (first ∷ rest) p q = absurd (omega arith)
root-room (suc a) zero hash [] p q = refl
root-room (suc a) zero hash (first ∷ rest) p q = absurd (omega arith)
root-room (suc a) (suc b) hash [] p q = refl
root-room (suc a) (suc b) hash (first ∷ []) p q = refl
root-room (suc a) (suc b) hash (first ∷ second ∷ rest) p q =
    let digests : List (List ℕ) = first ∷ second ∷ rest in
    let k : ℕ = split_of (length digests) in
    let within : (0 < k) × (k < length digests) = split-within (length digests) (omega arith) in
    let left : length (take k digests) ≡ k = length-take-le k digests (omega arith) in
    let right : length (drop k digests) ≡ length digests - k = length-drop k digests in
    ap (λ l. node hash l (root_within a hash (drop k digests))) (root-room a b hash (take k digests) (omega arith) (omega arith))
    ∙ ap (λ r. node hash (root_within b hash (take k digests)) r) (root-room a b hash (drop k digests) (omega arith) (omega arith))

-- the root over one digest is its leaf
pub root-one : (hash : Hash) (digests : List (List ℕ)) → 1 ≤ length digests → length digests < 2 → root hash digests ≡ leaf hash (get_or digests 0 [])
unfolding root root_within
root-one hash [] p q = absurd (omega arith)
root-one hash (digest ∷ []) p q = refl
root-one hash (first ∷ second ∷ rest) p q = absurd (omega arith)

root-at-split : (hash : Hash) (digests : List (List ℕ)) → 1 < length digests
    → root hash digests ≡ node hash (root hash (take (split_of (length digests)) digests)) (root hash (drop (split_of (length digests)) digests))
unfolding root root_within
root-at-split hash [] h = absurd (omega arith)
root-at-split hash (digest ∷ []) h = absurd (omega arith)
root-at-split hash (first ∷ second ∷ rest) h =
    let digests : List (List ℕ) = first ∷ second ∷ rest in
    let k : ℕ = split_of (length digests) in
    let within : (0 < k) × (k < length digests) = split-within (length digests) (omega arith) in
    let left : length (take k digests) ≡ k = length-take-le k digests (omega arith) in
    let right : length (drop k digests) ≡ length digests - k = length-drop k digests in
    let room : ℕ = suc (length rest) in
    ap (λ l. node hash l (root_within room hash (drop k digests))) (root-room room (length (take k digests)) hash (take k digests) (omega arith) (omega arith))
    ∙ ap (λ r. node hash (root hash (take k digests)) r) (root-room room (length (drop k digests)) hash (drop k digests) (omega arith) (omega arith))

-- the root over more digests than one is the node of the roots over both parts
pub root-split : (hash : Hash) (digests : List (List ℕ)) (k : ℕ) → 1 < length digests → k ≡ split_of (length digests)
    → root hash digests ≡ node hash (root hash (take k digests)) (root hash (drop k digests))
root-split hash digests k h same =
    let P : ℕ → Type 0 = λ j. root hash digests ≡ node hash (root hash (take j digests)) (root hash (drop j digests)) in
    subst P (sym same) (root-at-split hash digests h)
