-- A list fits its sizes just where it has the exact length.
use Rattle.std.proofs.Common.{◌≡◌, ◌≢◌, ◌<◌, ◌≤◌, ◌↔◌, length, ℕ, suc, zero, ◌+◌, ◌-◌, ◌*◌, ◌^◌, count_ones, List, [], ◌∷◌, reverse, refl, arith, ap, ◌∙◌, sym, inl, inr, nat_lt, nat_le, if◌then◌else◌}
use Rattle.std.proofs.lemmas.Bool.{cases_lt, cases_eq, lt-ltb, le-ltb, le-leb, lt-leb, eq-eqb, ne_eqb}
use Rattle.std.proofs.lemmas.List.{length-reverse}
use Rattle.std.proofs.lemmas.Nat.{ones_cat, ones_le_self, zero_from_ones}
use Rattle.im_model.specs.Trees.{split_of}
use Rattle.im_model.specs.Paths.{IsPath, path_length_within, path_length}
use Rattle.im_model.specs.Growth.{IsGrowth, IsConsistency, growth_length_within, growth_length, consistency_length}
use Rattle.im_model.proofs.TreeLemmas.{split-within, split-power, split-reaches}

-- one leaf has the empty path
pub path-one : (room n i : ℕ) → n ≤ 1 → path_length_within room n i ≡ 0
unfolding path_length_within
path-one zero n i h = refl
path-one (suc room) n i h =
    ap (λ b. if b then 0 else (if nat_lt i (split_of n) then suc (path_length_within room (split_of n) i)
    else suc (path_length_within room (n - split_of n) (i - split_of n)))) (le-leb n 1 h)

-- below the split a path is one longer than in the left part
pub path-left : (room n i : ℕ) → 1 < n → i < split_of n → path_length_within (suc room) n i ≡ suc (path_length_within room (split_of n) i)
unfolding path_length_within
path-left room n i h side =
    ap (λ b. if b then 0 else (if nat_lt i (split_of n) then suc (path_length_within room (split_of n) i)
    else suc (path_length_within room (n - split_of n) (i - split_of n)))) (lt-leb n 1 h)
    ∙ ap (λ b. if b then suc (path_length_within room (split_of n) i)
    else suc (path_length_within room (n - split_of n) (i - split_of n))) (lt-ltb i (split_of n) side)

-- from the split on a path is one longer than in the right part
pub path-right : (room n i : ℕ) → 1 < n → split_of n ≤ i → path_length_within (suc room) n i ≡ suc (path_length_within room (n - split_of n) (i - split_of n))
unfolding path_length_within
path-right room n i h side =
    ap (λ b. if b then 0 else (if nat_lt i (split_of n) then suc (path_length_within room (split_of n) i)
    else suc (path_length_within room (n - split_of n) (i - split_of n)))) (lt-leb n 1 h)
    ∙ ap (λ b. if b then suc (path_length_within room (split_of n) i)
    else suc (path_length_within room (n - split_of n) (i - split_of n))) (le-ltb i (split_of n) side)

fits-path : (room n i : ℕ) (path : List (List ℕ)) → n ≤ room → i < n → IsPath n i path ↔ (length path ≡ path_length_within room n i)
fits-path zero n i path r h = absurd (omega arith)
fits-path (suc room) n i [] r h = elim (cases_lt 1 n) [
  | inl many ↦ elim (cases_lt i (split_of n)) [
    | inl l ↦ (λ one. absurd (let e : n ≡ 1 = one in omega arith), λ e. absurd (let step = path-left room n i many l in omega arith))
    | inr g ↦ (λ one. absurd (let e : n ≡ 1 = one in omega arith), λ e. absurd (let step = path-right room n i many g in omega arith))
  ]
  | inr few ↦ (λ one. sym (path-one (suc room) n i few), λ e. omega arith)
]
fits-path (suc room) n i (term ∷ rest) r h = elim (cases_lt 1 n) [
  | inl many ↦ (
      let inside : (0 < split_of n) × (split_of n < n) = split-within n many in
      elim (cases_lt i (split_of n)) [
        | inl l ↦ (
            let step = path-left room n i many l in
            let more : IsPath (split_of n) i rest ↔ (length rest ≡ path_length_within room (split_of n) i) = fits-path room (split_of n) i rest (omega arith) l in (
              λ p. elim p.1 [
                | inl a ↦ (let e : length rest ≡ path_length_within room (split_of n) i = more.0 a.1 in omega arith)
                | inr b ↦ absurd (let other : split_of n ≤ i = b.0 in omega arith)
              ],
              λ e. (many, inl (l, more.1 (omega arith))),
            ))
        | inr g ↦ (
            let step = path-right room n i many g in
            let more : IsPath (n - split_of n) (i - split_of n) rest ↔ (length rest ≡ path_length_within room (n - split_of n) (i - split_of n)) = fits-path room (n - split_of n) (i - split_of n) rest (omega arith) (omega arith) in (
              λ p. elim p.1 [
                | inl a ↦ absurd (let other : i < split_of n = a.0 in omega arith)
                | inr b ↦ (let e : length rest ≡ path_length_within room (n - split_of n) (i - split_of n) = more.0 b.1 in omega arith)
              ],
              λ e. (many, inr (g, more.1 (omega arith))),
            ))
      ])
  | inr few ↦ (λ p. absurd (let many : 1 < n = p.0 in omega arith), λ e. absurd (let none = path-one (suc room) n i few in omega arith))
]

-- a path fits its sizes just where it has the exact length
pub path-fits : (n i : ℕ) (path : List (List ℕ)) → i < n → IsPath n i path ↔ (length path ≡ path_length n i)
unfolding path_length
path-fits n i path h = fits-path n n i path (omega arith) h

-- 0 has no one in binary
pub ones-none : count_ones 0 ≡ 0
ones-none = let most = ones_le_self 0 in omega arith

-- 1 has one
pub ones-one : count_ones 1 ≡ 1
ones-one =
    let most : count_ones 1 ≤ 1 = ones_le_self 1 in
    elim (cases_eq (count_ones 1) 0) [
      | inl e ↦ absurd (let none : 1 ≡ 0 = zero_from_ones 1 e in omega arith)
      | inr ne ↦ omega arith
    ]

last-path : (room n : ℕ) → n ≤ room → 0 < n → path_length_within room n (n - 1) ≡ count_ones (n - 1)
last-path zero n r p = absurd (omega arith)
last-path (suc room) n r p = elim (cases_lt 1 n) [
  | inl many ↦ (
      let k : ℕ = split_of n in
      let inside : (0 < k) × (k < n) = split-within n many in
      let power : (e : ℕ) × (k ≡ 2 ^ e) = split-power n in
      let is : k ≡ 2 ^ power.0 = power.1 in
      let reaches : n ≤ 2 * k = split-reaches n in
      let last : n - 1 - k ≡ n - k - 1 = omega arith in
      let whole : n - 1 ≡ 1 * 2 ^ power.0 + (n - k - 1) = omega arith in
      let more : path_length_within room (n - k) (n - k - 1) ≡ count_ones (n - k - 1) = last-path room (n - k) (omega arith) (omega arith) in
      let ones : count_ones (1 * 2 ^ power.0 + (n - k - 1)) ≡ count_ones 1 + count_ones (n - k - 1) = ones_cat power.0 1 (n - k - 1) (omega arith) in
      let step : path_length_within (suc room) n (n - 1) ≡ suc (path_length_within room (n - k) (n - 1 - k)) = path-right room n (n - 1) many (omega arith) in
      let same : path_length_within room (n - k) (n - 1 - k) ≡ count_ones (n - k - 1) = ap (λ j. path_length_within room (n - k) j) last ∙ more in
      let left : path_length_within (suc room) n (n - 1) ≡ count_ones 1 + count_ones (n - k - 1) = omega (arith, ones-one) in
      left ∙ sym ones ∙ ap (λ j. count_ones j) (sym whole))
  | inr few ↦ (
      let none : n - 1 ≡ 0 = omega arith in
      path-one (suc room) n (n - 1) few ∙ sym ones-none ∙ ap (λ j. count_ones j) (sym none))
]

-- the path of the last leaf has a term for each one of its number in binary
pub path-last : (n : ℕ) → 0 < n → path_length n (n - 1) ≡ count_ones (n - 1)
unfolding path_length
path-last n p = last-path n n (omega arith) p

-- equal sizes have no term behind the first
pub growth-same : (room m n : ℕ) → m ≡ n → growth_length_within room m n ≡ 0
unfolding growth_length_within
growth-same zero m n h = refl
growth-same (suc room) m n h =
    ap (λ b. if b then 0 else (if nat_le m (split_of n) then suc (growth_length_within room m (split_of n))
    else suc (growth_length_within room (m - split_of n) (n - split_of n)))) (eq-eqb m n h)

-- up to the split a list is one longer than in the left part
pub growth-left : (room m n : ℕ) → m ≢ n → m ≤ split_of n → growth_length_within (suc room) m n ≡ suc (growth_length_within room m (split_of n))
unfolding growth_length_within
growth-left room m n h side =
    ap (λ b. if b then 0 else (if nat_le m (split_of n) then suc (growth_length_within room m (split_of n))
    else suc (growth_length_within room (m - split_of n) (n - split_of n)))) (ne_eqb m n h)
    ∙ ap (λ b. if b then suc (growth_length_within room m (split_of n))
    else suc (growth_length_within room (m - split_of n) (n - split_of n))) (le-leb m (split_of n) side)

-- past the split a list is one longer than in the right part
pub growth-right : (room m n : ℕ) → m ≢ n → split_of n < m → growth_length_within (suc room) m n ≡ suc (growth_length_within room (m - split_of n) (n - split_of n))
unfolding growth_length_within
growth-right room m n h side =
    ap (λ b. if b then 0 else (if nat_le m (split_of n) then suc (growth_length_within room m (split_of n))
    else suc (growth_length_within room (m - split_of n) (n - split_of n)))) (ne_eqb m n h)
    ∙ ap (λ b. if b then suc (growth_length_within room m (split_of n))
    else suc (growth_length_within room (m - split_of n) (n - split_of n))) (lt-leb m (split_of n) side)

fits-growth : (room m n : ℕ) (list : List (List ℕ)) → n ≤ room → 0 < m → m ≤ n → IsGrowth m n list ↔ (length list ≡ growth_length_within room m n)
fits-growth zero m n list r p h = absurd (omega arith)
fits-growth (suc room) m n [] r p h = elim (cases_eq m n) [
  | inl e ↦ (λ one. sym (growth-same (suc room) m n e), λ l. e)
  | inr ne ↦ elim (cases_lt (split_of n) m) [
    | inl over ↦ (λ one. absurd (ne one), λ e. absurd (let step = growth-right room m n ne over in omega arith))
    | inr under ↦ (λ one. absurd (ne one), λ e. absurd (let step = growth-left room m n ne under in omega arith))
  ]
]
fits-growth (suc room) m n (term ∷ rest) r p h = elim (cases_eq m n) [
  | inl e ↦ (λ g. absurd (let less : m < n = g.0 in omega arith), λ l. absurd (let none = growth-same (suc room) m n e in omega arith))
  | inr ne ↦ (
      let less : m < n = (elim (cases_lt m n) [ inl q ↦ q | inr q ↦ absurd (ne (let e : m ≡ n = omega arith in e)) ]) in
      let inside : (0 < split_of n) × (split_of n < n) = split-within n (omega arith) in
      elim (cases_lt (split_of n) m) [
        | inl over ↦ (
            let step = growth-right room m n ne over in
            let more : IsGrowth (m - split_of n) (n - split_of n) rest ↔ (length rest ≡ growth_length_within room (m - split_of n) (n - split_of n)) = fits-growth room (m - split_of n) (n - split_of n) rest (omega arith) (omega arith) (omega arith) in (
              λ g. elim g.1 [
                | inl a ↦ absurd (let other : m ≤ split_of n = a.0 in omega arith)
                | inr b ↦ (let e : length rest ≡ growth_length_within room (m - split_of n) (n - split_of n) = more.0 b.1 in omega arith)
              ],
              λ e. (less, inr (over, more.1 (omega arith))),
            ))
        | inr under ↦ (
            let step = growth-left room m n ne under in
            let more : IsGrowth m (split_of n) rest ↔ (length rest ≡ growth_length_within room m (split_of n)) = fits-growth room m (split_of n) rest (omega arith) p under in (
              λ g. elim g.1 [
                | inl a ↦ (let e : length rest ≡ growth_length_within room m (split_of n) = more.0 a.1 in omega arith)
                | inr b ↦ absurd (let other : split_of n < m = b.0 in omega arith)
              ],
              λ e. (less, inl (under, more.1 (omega arith))),
            ))
      ])
]

-- the terms behind the first fit their sizes just where their number is exact
pub growth-fits : (m n : ℕ) (list : List (List ℕ)) → 0 < m → m ≤ n → IsGrowth m n list ↔ (length list ≡ growth_length m n)
unfolding growth_length
growth-fits m n list p h = fits-growth n m n list (omega arith) p h

-- equal sizes have the empty consistency list
pub consistency-same : (m n : ℕ) → m ≡ n → consistency_length m n ≡ 0
unfolding consistency_length
consistency-same m n e = ap (λ b. if b then 0 else suc (growth_length m n)) (eq-eqb m n e)

-- unequal sizes have a first term, and those behind it
pub consistency-more : (m n : ℕ) → m ≢ n → consistency_length m n ≡ suc (growth_length m n)
unfolding consistency_length
consistency-more m n ne = ap (λ b. if b then 0 else suc (growth_length m n)) (ne_eqb m n ne)

-- a consistency list fits its sizes just where it has the exact length
pub consistency-fits : (m n : ℕ) (list : List (List ℕ)) → 0 < m → m ≤ n → IsConsistency m n list ↔ (length list ≡ consistency_length m n)
consistency-fits m n [] p h = elim (cases_eq m n) [
  | inl e ↦ (λ same. sym (consistency-same m n e), λ l. e)
  | inr ne ↦ (λ same. absurd (ne same), λ l. absurd (let more = consistency-more m n ne in omega arith))
]
consistency-fits m n (first ∷ others) p h =
    let long : length (reverse others) ≡ length others = length-reverse others in
    let fits : IsGrowth m n (reverse others) ↔ (length (reverse others) ≡ growth_length m n) = growth-fits m n (reverse others) p h in
    elim (cases_eq m n) [
      | inl e ↦ (λ c. absurd (let less : m < n = c.0 in omega arith), λ l. absurd (let none = consistency-same m n e in omega arith))
      | inr ne ↦ (
          let more = consistency-more m n ne in
          let less : m < n = (elim (cases_lt m n) [ inl q ↦ q | inr q ↦ absurd (ne (let e : m ≡ n = omega arith in e)) ]) in (
            λ c. (let e : length (reverse others) ≡ growth_length m n = fits.0 c.1 in omega arith),
            λ l. (less, fits.1 (omega arith)),
          ))
    ]
