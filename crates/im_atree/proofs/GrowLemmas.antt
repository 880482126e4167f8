-- The sides of the terms of a consistency list, how a level halves them, and the walk along them.
use Rattle.std.proofs.Common.{◌≡◌, ◌≢◌, ◌<◌, ◌≤◌, ℕ, suc, zero, ◌+◌, ◌-◌, ◌*◌, ◌/◌, ◌%◌, List, [], ◌∷◌, ◌++◌, length, take, reverse, refl, arith, ap, ◌∙◌, sym, nat_le, Bool, true, false, if◌then◌else◌, length-append, inl, inr, get_or}
use Rattle.std.proofs.lemmas.Bool.{cases_lt, cases_eq, le-leb, lt-leb, eq-eqb, ne_eqb}
use Rattle.std.proofs.lemmas.List.{length-take-le}
use Rattle.im_digest.specs.Digests.{Hash}
use Rattle.im_model.specs.Trees.{node, split_of}
use Rattle.im_model.specs.Growth.{growth_length_within, growth_length, consistency_length, older, newer}
use Rattle.im_model.proofs.TreeLemmas.{split-within}
use Rattle.im_model.proofs.Lengths.{growth-same, growth-left, growth-right, consistency-more}
use Rattle.im_model.proofs.Reversed.{older-nothing, newer-nothing, older-last-left, older-last-right, newer-last-left, newer-last-right}
use Rattle.im_levels.proofs.GrowthLemmas.{differ, less}
use Rattle.im_mtree.specs.Ways.{sides, rise}
use Rattle.im_mtree.proofs.SideLemmas.{split-half, split-two, sides-left, sides-right, sides-one, rise-snoc}
use Rattle.im_mtree.proofs.WayLemmas.{rise-end}
use Rattle.im_atree.specs.Grows.{grow_sides_within, grow_sides, meet_both}
use Rattle.im_atree.specs.declared.growths.Roots.{Roots}
use Rattle.im_octet.proofs.Common.{last-term}

same-within : (room m n : ℕ) → m ≡ n → grow_sides_within room m n ≡ []
unfolding grow_sides_within
same-within zero m n e = refl
same-within (suc room) m n e =
    ap (λ t. if t then [] else (if nat_le m (split_of n) then grow_sides_within room m (split_of n) ++ false ∷ []
    else grow_sides_within room (m - split_of n) (n - split_of n) ++ true ∷ [])) (eq-eqb m n e)

low-within : (room m n : ℕ) → m ≢ n → m ≤ split_of n → grow_sides_within (suc room) m n ≡ grow_sides_within room m (split_of n) ++ false ∷ []
unfolding grow_sides_within
low-within room m n ne side =
    ap (λ t. if t then [] else (if nat_le m (split_of n) then grow_sides_within room m (split_of n) ++ false ∷ []
    else grow_sides_within room (m - split_of n) (n - split_of n) ++ true ∷ [])) (ne_eqb m n ne)
    ∙ ap (λ t. if t then grow_sides_within room m (split_of n) ++ false ∷ []
    else grow_sides_within room (m - split_of n) (n - split_of n) ++ true ∷ []) (le-leb m (split_of n) side)

high-within : (room m n : ℕ) → m ≢ n → split_of n < m → grow_sides_within (suc room) m n ≡ grow_sides_within room (m - split_of n) (n - split_of n) ++ true ∷ []
unfolding grow_sides_within
high-within room m n ne side =
    ap (λ t. if t then [] else (if nat_le m (split_of n) then grow_sides_within room m (split_of n) ++ false ∷ []
    else grow_sides_within room (m - split_of n) (n - split_of n) ++ true ∷ [])) (ne_eqb m n ne)
    ∙ ap (λ t. if t then grow_sides_within room m (split_of n) ++ false ∷ []
    else grow_sides_within room (m - split_of n) (n - split_of n) ++ true ∷ []) (lt-leb m (split_of n) side)

-- more room doesn't change the sides
grow-room : (a b m n : ℕ) → 0 < m → m ≤ n → n ≤ a → n ≤ b → grow_sides_within a m n ≡ grow_sides_within b m n
grow-room zero b m n o l p q = absurd (omega arith)
grow-room (suc a) zero m n o l p q = absurd (omega arith)
grow-room (suc a) (suc b) m n o l p q = elim (cases_eq m n) [
  | inl e ↦ same-within (suc a) m n e ∙ sym (same-within (suc b) m n e)
  | inr ne ↦ (
      let below : m < n = less m n l ne in
      let inside : (0 < split_of n) × (split_of n < n) = split-within n (omega arith) in
      elim (cases_lt (split_of n) m) [
        | inl over ↦ high-within a m n ne over
            ∙ ap (λ x. x ++ true ∷ []) (grow-room a b (m - split_of n) (n - split_of n) (omega arith) (omega arith) (omega arith) (omega arith))
            ∙ sym (high-within b m n ne over)
        | inr under ↦ low-within a m n ne under
            ∙ ap (λ x. x ++ false ∷ []) (grow-room a b m (split_of n) o under (omega arith) (omega arith))
            ∙ sym (low-within b m n ne under)
      ])
]

-- equal sizes have no side
pub grow-same : (m n : ℕ) → m ≡ n → grow_sides m n ≡ []
unfolding grow_sides
grow-same m n e = same-within n m n e

-- up to the split the last term stands right
pub grow-low : (m n k : ℕ) → 0 < m → m < n → k ≡ split_of n → m ≤ k → grow_sides m n ≡ grow_sides m k ++ false ∷ []
unfolding grow_sides
grow-low m zero k o p s q = absurd (omega arith)
grow-low m (suc n) k o p s q =
    let inside : (0 < split_of (suc n)) × (split_of (suc n) < suc n) = split-within (suc n) (omega arith) in
    low-within n m (suc n) (differ m (suc n) p) (omega arith)
    ∙ ap (λ x. grow_sides_within n m x ++ false ∷ []) (sym s)
    ∙ ap (λ x. x ++ false ∷ []) (grow-room n k m k o q (omega arith) (omega arith))

-- past the split the last term stands left
pub grow-high : (m n k : ℕ) → 0 < m → m < n → k ≡ split_of n → k < m → grow_sides m n ≡ grow_sides (m - k) (n - k) ++ true ∷ []
unfolding grow_sides
grow-high m zero k o p s q = absurd (omega arith)
grow-high m (suc n) k o p s q =
    let inside : (0 < split_of (suc n)) × (split_of (suc n) < suc n) = split-within (suc n) (omega arith) in
    high-within n m (suc n) (differ m (suc n) p) (omega arith)
    ∙ ap (λ x. grow_sides_within n (m - x) (suc n - x) ++ true ∷ []) (sym s)
    ∙ ap (λ x. x ++ true ∷ []) (grow-room n (suc n - k) (m - k) (suc n - k) (omega arith) (omega arith) (omega arith) (omega arith))

-- an even older size has the sides of its half, a level up
pub grow-even : (room m n a b : ℕ) → n ≤ room → 0 < m → m < n → m ≡ 2 * a → n ≤ 2 * b → 2 * b ≤ n + 1 → grow_sides m n ≡ grow_sides a b
grow-even zero m n a b s o l h p q = absurd (omega arith)
grow-even (suc room) m n a b s o l h p q =
    let k : ℕ = split_of n in
    let k' : ℕ = split_of b in
    let half : k ≡ 2 * k' = split-half n b (omega arith) p q in
    let inside : (0 < k) × (k < n) = split-within n (omega arith) in
    let inside' : (0 < k') × (k' < b) = split-within b (omega arith) in
    elim (cases_lt k m) [
      | inl over ↦ grow-high m n k o l refl over
          ∙ ap (λ x. x ++ true ∷ []) (grow-even room (m - k) (n - k) (a - k') (b - k') (omega arith) (omega arith) (omega arith) (omega arith) (omega arith) (omega arith))
          ∙ sym (grow-high a b k' (omega arith) (omega arith) refl (omega arith))
      | inr under ↦ (
          let below : grow_sides m k ≡ grow_sides a k' = elim (cases_eq m k) [
            | inl e ↦ (let e' : a ≡ k' = omega arith in grow-same m k e ∙ sym (grow-same a k' e'))
            | inr ne ↦ grow-even room m k a k' (omega arith) o (less m k under ne) h (omega arith) (omega arith)
          ] in
          grow-low m n k o l refl under ∙ ap (λ x. x ++ false ∷ []) below ∙ sym (grow-low a b k' (omega arith) (omega arith) refl (omega arith)))
    ]

-- a split above 1 is even
split-even : (n : ℕ) → 2 < n → (j : ℕ) × (split_of n ≡ 2 * j)
split-even n h = (split_of (n / 2 + n % 2), split-half n (n / 2 + n % 2) h (omega arith) (omega arith))

-- an odd older size has the sides of its last leaf
pub grow-odd : (room m n a : ℕ) → n ≤ room → m < n → m ≡ 2 * a + 1 → grow_sides m n ≡ sides n (2 * a)
grow-odd zero m n a s l h = absurd (omega arith)
grow-odd (suc room) m n a s l h = elim (cases_lt 2 n) [
  | inr few ↦ (
      let two : n ≡ 2 = omega arith in
      let one : split_of n ≡ 1 = ap split_of two ∙ split-two in
      grow-low m n (split_of n) (omega arith) l refl (omega arith)
      ∙ ap (λ x. x ++ false ∷ []) (grow-same m (split_of n) (omega arith) ∙ sym (ap (λ x. sides x (2 * a)) one ∙ sides-one (2 * a)))
      ∙ sym (sides-right n (2 * a) (split_of n) (omega arith) refl (omega arith)))
  | inl more ↦ (
      let k : ℕ = split_of n in
      let inside : (0 < k) × (k < n) = split-within n (omega arith) in
      let even : (j : ℕ) × (k ≡ 2 * j) = split-even n more in
      let j : ℕ = even.0 in
      let twice : k ≡ 2 * j = even.1 in
      elim (cases_lt k m) [
        | inl over ↦ (
            let rest : 2 * (a - j) ≡ 2 * a - k = omega arith in
            grow-high m n k (omega arith) l refl over
            ∙ ap (λ x. x ++ true ∷ []) (grow-odd room (m - k) (n - k) (a - j) (omega arith) (omega arith) (omega arith) ∙ ap (λ x. sides (n - k) x) rest)
            ∙ sym (sides-left n (2 * a) k (omega arith) refl (omega arith)))
        | inr under ↦ grow-low m n k (omega arith) l refl under
            ∙ ap (λ x. x ++ false ∷ []) (grow-odd room m k a (omega arith) (omega arith) h)
            ∙ sym (sides-right n (2 * a) k (omega arith) refl (omega arith))
      ])
]

length-within : (room m n : ℕ) → length (grow_sides_within room m n) ≡ growth_length_within room m n
unfolding grow_sides_within growth_length_within
length-within zero m n = refl
length-within (suc room) m n = elim (cases_eq m n) [
  | inl e ↦ ap length (same-within (suc room) m n e) ∙ sym (growth-same (suc room) m n e)
  | inr ne ↦ elim (cases_lt (split_of n) m) [
    | inl over ↦ ap length (high-within room m n ne over) ∙ length-append (grow_sides_within room (m - split_of n) (n - split_of n)) (true ∷ [])
        ∙ omega (arith, length-within room (m - split_of n) (n - split_of n), growth-right room m n ne over)
    | inr under ↦ ap length (low-within room m n ne under) ∙ length-append (grow_sides_within room m (split_of n)) (false ∷ [])
        ∙ omega (arith, length-within room m (split_of n), growth-left room m n ne under)
  ]
]

-- there are as many sides as terms behind the first
pub length-grows : (m n : ℕ) → length (grow_sides m n) ≡ growth_length m n
unfolding grow_sides growth_length
length-grows m n = length-within n m n

-- both roots that a first term and those behind it give
abbrev pub roots_by : Hash → ℕ → ℕ → List ℕ → List (List ℕ) → Roots
roots_by hash m n first list = record { older = older hash m n first (reverse list); newer = newer hash m n first (reverse list) }

both-rise : (room : ℕ) (hash : Hash) (m n : ℕ) (first : List ℕ) (list : List (List ℕ)) → 0 < m → m ≤ n → n ≤ room → length list ≡ growth_length_within room m n
    → rise (meet_both hash) (grow_sides_within room m n) (record { older = first; newer = first }) list ≡ roots_by hash m n first list
both-rise zero hash m n first list o l p e = absurd (omega arith)
both-rise (suc room) hash m n first list o l p e = elim (cases_eq m n) [
  | inl same ↦ (
      let none : length list ≡ 0 = e ∙ growth-same (suc room) m n same in
      rise-end (meet_both hash) (grow_sides_within (suc room) m n) (record { older = first; newer = first }) list (ap length (same-within (suc room) m n same))
      ∙ ap (λ x. record { older = x; newer = first }) (sym (older-nothing hash m n first list none))
      ∙ ap (λ x. record { older = older hash m n first (reverse list); newer = x }) (sym (newer-nothing hash m n first list none)))
  | inr ne ↦ (
      let below : m < n = less m n l ne in
      let k : ℕ = split_of n in
      let inside : (0 < k) × (k < n) = split-within n (omega arith) in
      elim (cases_lt k m) [
        | inl over ↦ (
            let q : ℕ = growth_length_within room (m - k) (n - k) in
            let long : length list ≡ suc q = e ∙ growth-right room m n ne over in
            let term : List ℕ = get_or list q [] in
            let front : length (take q list) ≡ q = length-take-le q list (omega arith) in
            ap (λ s. rise (meet_both hash) s (record { older = first; newer = first }) list) (high-within room m n ne over)
            ∙ rise-snoc (meet_both hash) (grow_sides_within room (m - k) (n - k)) true (record { older = first; newer = first }) list q (length-within room (m - k) (n - k)) long
            ∙ ap (λ r. meet_both hash true r term) (both-rise room hash (m - k) (n - k) first (take q list) (omega arith) (omega arith) (omega arith) front)
            ∙ ap (λ x. record { older = x; newer = node hash term (newer hash (m - k) (n - k) first (reverse (take q list))) })
            (sym (older-last-right hash m n first list (take q list) term k (last-term list q [] long) refl over))
            ∙ ap (λ x. record { older = older hash m n first (reverse list); newer = x })
            (sym (newer-last-right hash m n first list (take q list) term k (last-term list q [] long) refl over)))
        | inr under ↦ (
            let q : ℕ = growth_length_within room m k in
            let long : length list ≡ suc q = e ∙ growth-left room m n ne under in
            let term : List ℕ = get_or list q [] in
            let front : length (take q list) ≡ q = length-take-le q list (omega arith) in
            ap (λ s. rise (meet_both hash) s (record { older = first; newer = first }) list) (low-within room m n ne under)
            ∙ rise-snoc (meet_both hash) (grow_sides_within room m k) false (record { older = first; newer = first }) list q (length-within room m k) long
            ∙ ap (λ r. meet_both hash false r term) (both-rise room hash m k first (take q list) o under (omega arith) front)
            ∙ ap (λ x. record { older = x; newer = node hash (newer hash m k first (reverse (take q list))) term })
            (sym (older-last-left hash m n first list (take q list) term k (last-term list q [] long) refl under))
            ∙ ap (λ x. record { older = older hash m n first (reverse list); newer = x })
            (sym (newer-last-left hash m n first list (take q list) term k (last-term list q [] long) refl under)))
      ])
]

-- the roots that a list gives are where the walk along its sides ends
pub both-is_rise : (hash : Hash) (m n : ℕ) (first : List ℕ) (list : List (List ℕ)) → 0 < m → m ≤ n → length list ≡ growth_length m n
    → rise (meet_both hash) (grow_sides m n) (record { older = first; newer = first }) list ≡ roots_by hash m n first list
unfolding grow_sides growth_length
both-is_rise hash m n first list o l e = both-rise n hash m n first list o l (omega arith) e

-- there are as many sides as terms of a consistency list without the first
pub length-behind : (m n : ℕ) → m < n → length (grow_sides m n) + 1 ≡ consistency_length m n
length-behind m n l = omega (arith, length-grows m n, consistency-more m n (differ m n l))

-- what a walk makes of a first term is the roots that the list gives
pub both-walked : (hash : Hash) (m n : ℕ) (first : List ℕ) (list : List (List ℕ)) (way : List Bool) (roots : Roots) → 0 < m → m < n → length list + 1 ≡ consistency_length m n
    → way ≡ grow_sides m n → roots ≡ rise (meet_both hash) way (record { older = first; newer = first }) list → roots ≡ roots_by hash m n first list
both-walked hash m n first list way roots o l e same walk =
    walk
    ∙ ap (λ s. rise (meet_both hash) s (record { older = first; newer = first }) list) same
    ∙ both-is_rise hash m n first list o (omega arith) (omega (arith, e, consistency-more m n (differ m n l)))
