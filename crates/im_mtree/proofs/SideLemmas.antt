-- The sides of the terms on the way to a root, and how a level halves them.
use Rattle.std.proofs.Common.{◌≡◌, ◌<◌, ◌≤◌, ℕ, suc, zero, ◌+◌, ◌-◌, ◌*◌, ◌^◌, List, [], ◌∷◌, ◌++◌, length, take, refl, arith, ap, ◌∙◌, sym, subst, nat_lt, nat_le, Bool, true, false, if◌then◌else◌, append_assoc, ◌⊎◌, inl, inr, get_or}
use Rattle.std.proofs.lemmas.Bool.{ltb-true, lt-ltb, le-ltb, le-leb, lt-leb}
use Rattle.im_model.specs.Trees.{split_of}
use Rattle.im_model.proofs.TreeLemmas.{split-within, split-reaches, split-power}
use Rattle.im_mtree.specs.Ways.{sides_within, sides, rise}
use Rattle.im_mtree.proofs.JoinLemmas.{split-is, power-twice}

-- half of n, rounded up, is split at half of the place
pub split-half : (n m : ℕ) → 2 < n → n ≤ 2 * m → 2 * m ≤ n + 1 → split_of n ≡ 2 * split_of m
split-half n m h g f =
    let power : (e : ℕ) × (split_of m ≡ 2 ^ e) = split-power m in
    let inside : (0 < split_of m) × (split_of m < m) = split-within m (omega arith) in
    let reaches : m ≤ 2 * split_of m = split-reaches m in
    split-is n (2 * split_of m) (suc power.0) (power-twice (split_of m) power.0 power.1) (omega arith) (omega arith)

-- two leaves are split in the middle
pub split-two : split_of 2 ≡ 1
split-two = split-is 2 1 0 refl (omega arith) (omega arith)

-- more room doesn't change the sides
sides-room : (a b n i : ℕ) → n ≤ a → n ≤ b → sides_within a n i ≡ sides_within b n i
unfolding sides_within
sides-room zero zero n i p q = refl
sides-room zero (suc b) n i p q = ap (λ t. if t then [] else (if nat_lt i (split_of n) then sides_within b (split_of n) i ++ false ∷ [] else sides_within b (n - split_of n) (i - split_of n) ++ true ∷ [])) (sym (le-leb n 1 (omega arith)))
sides-room (suc a) zero n i p q = ap (λ t. if t then [] else (if nat_lt i (split_of n) then sides_within a (split_of n) i ++ false ∷ [] else sides_within a (n - split_of n) (i - split_of n) ++ true ∷ [])) (le-leb n 1 (omega arith))
sides-room (suc a) (suc b) n i p q =
    let k : ℕ = split_of n in
    elim (nat_le n 1) as (λ t. (nat_le n 1 ≡ t) →
    (if t then [] else (if nat_lt i k then sides_within a k i ++ false ∷ [] else sides_within a (n - k) (i - k) ++ true ∷ []))
    ≡ (if t then [] else (if nat_lt i k then sides_within b k i ++ false ∷ [] else sides_within b (n - k) (i - k) ++ true ∷ []))) [
      | true ↦ λ e. refl
      | false ↦ λ e.
          let many : 1 < n = grind arith in
          let w : (0 < split_of n) × (split_of n < n) = split-within n many in
          ap (λ x. if nat_lt i k then x ++ false ∷ [] else sides_within a (n - k) (i - k) ++ true ∷ []) (sides-room a b k i (omega arith) (omega arith))
          ∙ ap (λ x. if nat_lt i k then sides_within b k i ++ false ∷ [] else x ++ true ∷ []) (sides-room a b (n - k) (i - k) (omega arith) (omega arith))
    ] refl

-- the only leaf has no term
pub sides-one : (i : ℕ) → sides 1 i ≡ []
unfolding sides sides_within
sides-one i = refl

-- below the split the last term stands right
pub sides-right : (n i k : ℕ) → 1 < n → k ≡ split_of n → i < k → sides n i ≡ sides k i ++ false ∷ []
unfolding sides sides_within
sides-right zero i k p s q = absurd (omega arith)
sides-right (suc n) i k p s q =
    let w : (0 < split_of (suc n)) × (split_of (suc n) < suc n) = split-within (suc n) p in
    ap (λ t. if t then [] else (if nat_lt i (split_of (suc n)) then sides_within n (split_of (suc n)) i ++ false ∷ [] else sides_within n (suc n - split_of (suc n)) (i - split_of (suc n)) ++ true ∷ [])) (lt-leb (suc n) 1 p)
    ∙ ap (λ t. if t then sides_within n (split_of (suc n)) i ++ false ∷ [] else sides_within n (suc n - split_of (suc n)) (i - split_of (suc n)) ++ true ∷ []) (lt-ltb i (split_of (suc n)) (omega arith))
    ∙ ap (λ x. sides_within n x i ++ false ∷ []) (sym s)
    ∙ ap (λ x. x ++ false ∷ []) (sides-room n k k i (omega arith) (omega arith))

-- from the split on the last term stands left
pub sides-left : (n i k : ℕ) → 1 < n → k ≡ split_of n → k ≤ i → sides n i ≡ sides (n - k) (i - k) ++ true ∷ []
unfolding sides sides_within
sides-left zero i k p s q = absurd (omega arith)
sides-left (suc n) i k p s q =
    let w : (0 < split_of (suc n)) × (split_of (suc n) < suc n) = split-within (suc n) p in
    ap (λ t. if t then [] else (if nat_lt i (split_of (suc n)) then sides_within n (split_of (suc n)) i ++ false ∷ [] else sides_within n (suc n - split_of (suc n)) (i - split_of (suc n)) ++ true ∷ [])) (lt-leb (suc n) 1 p)
    ∙ ap (λ t. if t then sides_within n (split_of (suc n)) i ++ false ∷ [] else sides_within n (suc n - split_of (suc n)) (i - split_of (suc n)) ++ true ∷ []) (le-ltb i (split_of (suc n)) (omega arith))
    ∙ ap (λ x. sides_within n (suc n - x) (i - x) ++ true ∷ []) (sym s)
    ∙ ap (λ x. x ++ true ∷ []) (sides-room n (suc n - k) (suc n - k) (i - k) (omega arith) (omega arith))

-- the side on the lowest level: right of a node with an even index, left of one with an odd index, none
-- for a last node with an even index
abbrev pub Lowest : ℕ → ℕ → ℕ → List Bool → Type 0
Lowest n i j low =
    ((i ≡ 2 * j) × (i + 1 < n) × (low ≡ false ∷ [])) ⊎ (((i ≡ 2 * j + 1) × (low ≡ true ∷ [])) ⊎ ((i ≡ 2 * j) × (i + 1 ≡ n) × (low ≡ [])))

low-of-two : (i j : ℕ) (low : List Bool) → i < 2 → Lowest 2 i j low → sides 2 i ≡ low ++ sides 1 j
low-of-two i j low q h =
    elim h [
      | inl a ↦ sides-right 2 i 1 (omega arith) (sym split-two) (omega (arith, a.0, a.1)) ∙ ap (λ x. x ++ false ∷ []) (sides-one i) ∙ sym (ap (λ x. x ++ sides 1 j) a.2 ∙ ap (λ x. false ∷ [] ++ x) (sides-one j))
      | inr (inl a) ↦ sides-left 2 i 1 (omega arith) (sym split-two) (omega (arith, a.0)) ∙ ap (λ x. x ++ true ∷ []) (sides-one (i - 1)) ∙ sym (ap (λ x. x ++ sides 1 j) a.1 ∙ ap (λ x. true ∷ [] ++ x) (sides-one j))
      | inr (inr a) ↦ absurd (omega (arith, a.0, a.1))
    ]

-- the way of a leaf is the side on the lowest level, and then the way of the node above it
pub sides-up : (room n m i j : ℕ) (low : List Bool) → n ≤ room → 1 < n → n ≤ 2 * m → 2 * m ≤ n + 1 → i < n → Lowest n i j low
    → sides n i ≡ low ++ sides m j
sides-up zero n m i j low s p h g q l = absurd (omega arith)
sides-up (suc room) n m i j low s p h g q l =
    elim (nat_lt 2 n) as (λ b. (nat_lt 2 n ≡ b) → sides n i ≡ low ++ sides m j) [
      | false ↦ λ e.
          let two : 2 ≡ n = grind arith in
          let one : 1 ≡ m = omega arith in
          subst (λ x. sides n i ≡ low ++ sides x j) one (subst (λ x. i < x → Lowest x i j low → sides x i ≡ low ++ sides 1 j) two (low-of-two i j low) q l)
      | true ↦ λ e.
          let more : 2 < n = ltb-true 2 n e in
          let k : ℕ = split_of n in
          let k' : ℕ = split_of m in
          let half : k ≡ 2 * k' = split-half n m more h g in
          let w : (0 < k) × (k < n) = split-within n p in
          let r : n ≤ 2 * k = split-reaches n in
          let w' : (0 < k') × (k' < m) = split-within m (omega arith) in
          let r' : m ≤ 2 * k' = split-reaches m in
          elim (nat_lt i k) as (λ b. (nat_lt i k ≡ b) → sides n i ≡ low ++ sides m j) [
            | true ↦ λ f.
                let in_left : i < k = ltb-true i k f in
                let parts : Lowest k i j low = elim l [
                  | inl a ↦ inl (a.0, omega (arith, a.0), a.2)
                  | inr (inl a) ↦ inr (inl a)
                  | inr (inr a) ↦ absurd (omega (arith, a.1))
                ] in
                let at : j < k' = elim l [
                  | inl a ↦ omega (arith, a.0)
                  | inr (inl a) ↦ omega (arith, a.0)
                  | inr (inr a) ↦ omega (arith, a.0)
                ] in
                sides-right n i k p refl in_left
                ∙ ap (λ x. x ++ false ∷ []) (sides-up room k k' i j low (omega arith) (omega arith) (omega arith) (omega arith) in_left parts)
                ∙ append_assoc low (sides k' j) (false ∷ [])
                ∙ ap (λ x. low ++ x) (sym (sides-right m j k' (omega arith) refl at))
            | false ↦ λ f.
                let in_right : k ≤ i = grind arith in
                let at : k' ≤ j = elim l [
                  | inl a ↦ omega (arith, a.0)
                  | inr (inl a) ↦ omega (arith, a.0)
                  | inr (inr a) ↦ omega (arith, a.0)
                ] in
                let below : sides (n - k) (i - k) ≡ low ++ sides (m - k') (j - k') =
                elim (nat_lt 1 (n - k)) as (λ b. (nat_lt 1 (n - k) ≡ b) → sides (n - k) (i - k) ≡ low ++ sides (m - k') (j - k')) [
                  | true ↦ λ d.
                      let many : 1 < n - k = ltb-true 1 (n - k) d in
                      let parts : Lowest (n - k) (i - k) (j - k') low = elim l [
                        | inl a ↦ inl (omega (arith, a.0), omega (arith, a.1), a.2)
                        | inr (inl a) ↦ inr (inl (omega (arith, a.0), a.1))
                        | inr (inr a) ↦ inr (inr (omega (arith, a.0), omega (arith, a.1), a.2))
                      ] in
                      sides-up room (n - k) (m - k') (i - k) (j - k') low (omega arith) many (omega arith) (omega arith) (omega arith) parts
                  | false ↦ λ d.
                      let one : 1 ≡ n - k = grind arith in
                      let one' : 1 ≡ m - k' = omega arith in
                      let none : low ≡ [] = elim l [
                        | inl a ↦ absurd (omega (arith, a.0, a.1))
                        | inr (inl a) ↦ absurd (omega (arith, a.0))
                        | inr (inr a) ↦ a.2
                      ] in
                      subst (λ x. sides x (i - k) ≡ low ++ sides (m - k') (j - k')) one
                      (subst (λ x. sides 1 (i - k) ≡ low ++ sides x (j - k')) one'
                      (sides-one (i - k) ∙ sym (ap (λ x. x ++ sides 1 (j - k')) none ∙ sides-one (j - k'))))
                ] refl
                in
                sides-left n i k p refl in_right
                ∙ ap (λ x. x ++ true ∷ []) below
                ∙ append_assoc low (sides (m - k') (j - k')) (true ∷ [])
                ∙ ap (λ x. low ++ x) (sym (sides-left m j k' (omega arith) refl at))
          ] refl
    ] refl

-- a walk's last step
pub rise-snoc : {X : Type 0} → (step : Bool → X → List ℕ → X) (sides : List Bool) (b : Bool) (x : X) (path : List (List ℕ)) (q : ℕ)
    → length sides ≡ q → length path ≡ suc q
    → rise step (sides ++ b ∷ []) x path ≡ step b (rise step sides x (take q path)) (get_or path q [])
unfolding rise
rise-snoc step [] b x [] q r s = absurd (omega arith)
rise-snoc step [] b x (z ∷ path) zero r s = refl
rise-snoc step [] b x (z ∷ path) (suc q) r s = absurd (omega arith)
rise-snoc step (side ∷ sides) b x [] q r s = absurd (omega arith)
rise-snoc step (side ∷ sides) b x (z ∷ path) zero r s = absurd (omega arith)
rise-snoc step (side ∷ sides) b x (z ∷ path) (suc q) r s = rise-snoc step sides b (step side x z) path q (omega arith) (omega arith)
