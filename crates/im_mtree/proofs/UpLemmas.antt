-- The recursion from the root down is the walk from the leaf up.
use Rattle.std.proofs.Common.{◌≡◌, ◌<◌, ◌≤◌, ℕ, suc, zero, ◌+◌, ◌-◌, List, [], ◌∷◌, ◌++◌, length, take, reverse, refl, arith, ap, ◌∙◌, sym, nat_lt, nat_le, true, false, if◌then◌else◌, length-append, inl, inr, get_or}
use Rattle.std.proofs.lemmas.Bool.{cases_lt, lt-leb, lt-ltb, le-ltb}
use Rattle.std.proofs.lemmas.List.{length-take-le}
use Rattle.im_digest.specs.Digests.{Hash}
use Rattle.im_model.specs.Trees.{leaf, node, split_of}
use Rattle.im_model.specs.Paths.{path_length_within, path_length, up}
use Rattle.im_model.proofs.TreeLemmas.{split-within}
use Rattle.im_model.proofs.Lengths.{path-one, path-left, path-right}
use Rattle.im_model.proofs.Reversed.{up-nothing, up-last-left, up-last-right}
use Rattle.im_mtree.specs.Ways.{sides_within, sides, rise, meet}
use Rattle.im_mtree.proofs.SideLemmas.{rise-snoc}
use Rattle.im_mtree.proofs.WayLemmas.{rise-end}
use Rattle.im_octet.proofs.Common.{last-term}

-- there are as many sides as terms
length-within : (room n i : ℕ) → length (sides_within room n i) ≡ path_length_within room n i
unfolding sides_within path_length_within
length-within zero n i = refl
length-within (suc room) n i =
    let k : ℕ = split_of n in
    elim (nat_le n 1) as (λ t.
    length (if t then [] else (if nat_lt i k then sides_within room k i ++ false ∷ [] else sides_within room (n - k) (i - k) ++ true ∷ []))
    ≡ (if t then 0 else (if nat_lt i k then suc (path_length_within room k i) else suc (path_length_within room (n - k) (i - k))))) [
      | true ↦ refl
      | false ↦ elim (nat_lt i k) as (λ t.
          length (if t then sides_within room k i ++ false ∷ [] else sides_within room (n - k) (i - k) ++ true ∷ [])
          ≡ (if t then suc (path_length_within room k i) else suc (path_length_within room (n - k) (i - k)))) [
            | true ↦ length-append (sides_within room k i) (false ∷ []) ∙ omega (arith, length-within room k i)
            | false ↦ length-append (sides_within room (n - k) (i - k)) (true ∷ []) ∙ omega (arith, length-within room (n - k) (i - k))
          ]
    ]

-- there are as many sides as terms of a path
pub length-sides : (n i : ℕ) → length (sides n i) ≡ path_length n i
unfolding sides path_length
length-sides n i = length-within n n i

-- below the split the term at the root stands right
sides-at_right : (room n i : ℕ) → 1 < n → i < split_of n → sides_within (suc room) n i ≡ sides_within room (split_of n) i ++ false ∷ []
unfolding sides_within
sides-at_right room n i p q =
    ap (λ t. if t then [] else (if nat_lt i (split_of n) then sides_within room (split_of n) i ++ false ∷ [] else sides_within room (n - split_of n) (i - split_of n) ++ true ∷ [])) (lt-leb n 1 p)
    ∙ ap (λ t. if t then sides_within room (split_of n) i ++ false ∷ [] else sides_within room (n - split_of n) (i - split_of n) ++ true ∷ []) (lt-ltb i (split_of n) q)

-- from the split on the term at the root stands left
sides-at_left : (room n i : ℕ) → 1 < n → split_of n ≤ i → sides_within (suc room) n i ≡ sides_within room (n - split_of n) (i - split_of n) ++ true ∷ []
unfolding sides_within
sides-at_left room n i p q =
    ap (λ t. if t then [] else (if nat_lt i (split_of n) then sides_within room (split_of n) i ++ false ∷ [] else sides_within room (n - split_of n) (i - split_of n) ++ true ∷ [])) (lt-leb n 1 p)
    ∙ ap (λ t. if t then sides_within room (split_of n) i ++ false ∷ [] else sides_within room (n - split_of n) (i - split_of n) ++ true ∷ []) (le-ltb i (split_of n) q)

up-rise : (room : ℕ) (hash : Hash) (n i : ℕ) (digest : List ℕ) (path : List (List ℕ)) → n ≤ room → length path ≡ path_length_within room n i
    → up hash n i digest (reverse path) ≡ rise (meet hash) (sides_within room n i) (leaf hash digest) path
up-rise zero hash n i digest path fits e =
    up-nothing hash n i digest path (e ∙ path-one zero n i (omega arith))
    ∙ sym (rise-end (meet hash) (sides_within zero n i) (leaf hash digest) path (length-within zero n i ∙ path-one zero n i (omega arith)))
up-rise (suc room) hash n i digest path fits e = elim (cases_lt 1 n) [
  | inl many ↦ (
      let k : ℕ = split_of n in
      let inside : (0 < k) × (k < n) = split-within n many in
      elim (cases_lt i k) [
        | inl l ↦ (
            let q : ℕ = path_length_within room k i in
            let long : length path ≡ suc q = e ∙ path-left room n i many l in
            let front : length (take q path) ≡ q = length-take-le q path (omega arith) in
            up-last-left hash n i digest path (take q path) (get_or path q []) k (last-term path q [] long) refl l
            ∙ ap (λ x. node hash x (get_or path q [])) (up-rise room hash k i digest (take q path) (omega arith) front)
            ∙ sym (rise-snoc (meet hash) (sides_within room k i) false (leaf hash digest) path q (length-within room k i) long)
            ∙ ap (λ s. rise (meet hash) s (leaf hash digest) path) (sym (sides-at_right room n i many l)))
        | inr g ↦ (
            let q : ℕ = path_length_within room (n - k) (i - k) in
            let long : length path ≡ suc q = e ∙ path-right room n i many g in
            let front : length (take q path) ≡ q = length-take-le q path (omega arith) in
            up-last-right hash n i digest path (take q path) (get_or path q []) k (last-term path q [] long) refl g
            ∙ ap (λ x. node hash (get_or path q []) x) (up-rise room hash (n - k) (i - k) digest (take q path) (omega arith) front)
            ∙ sym (rise-snoc (meet hash) (sides_within room (n - k) (i - k)) true (leaf hash digest) path q (length-within room (n - k) (i - k)) long)
            ∙ ap (λ s. rise (meet hash) s (leaf hash digest) path) (sym (sides-at_left room n i many g)))
      ])
  | inr few ↦ (
      let none : path_length_within (suc room) n i ≡ 0 = path-one (suc room) n i few in
      up-nothing hash n i digest path (e ∙ none)
      ∙ sym (rise-end (meet hash) (sides_within (suc room) n i) (leaf hash digest) path (length-within (suc room) n i ∙ none)))
]

-- the root that a path gives is where the walk along its sides ends
pub up-is_rise : (hash : Hash) (n i : ℕ) (digest : List ℕ) (path : List (List ℕ)) → length path ≡ path_length n i
    → up hash n i digest (reverse path) ≡ rise (meet hash) (sides n i) (leaf hash digest) path
unfolding path_length sides
up-is_rise hash n i digest path e = up-rise n hash n i digest path (omega arith) e

short-within : (room n i : ℕ) → n ≤ room → 1 ≤ n → path_length_within room n i + 1 ≤ n
short-within zero n i p q = absurd (omega arith)
short-within (suc room) n i p q = elim (cases_lt 1 n) [
  | inl many ↦ (
      let inside : (0 < split_of n) × (split_of n < n) = split-within n many in
      elim (cases_lt i (split_of n)) [
        | inl l ↦ (
            let step = path-left room n i many l in
            let less : path_length_within room (split_of n) i + 1 ≤ split_of n = short-within room (split_of n) i (omega arith) (omega arith) in
            omega arith)
        | inr g ↦ (
            let step = path-right room n i many g in
            let less : path_length_within room (n - split_of n) (i - split_of n) + 1 ≤ n - split_of n = short-within room (n - split_of n) (i - split_of n) (omega arith) (omega arith) in
            omega arith)
      ])
  | inr few ↦ (let none = path-one (suc room) n i few in omega arith)
]

-- a path has fewer terms than its tree has leaves
pub path-short : (n i : ℕ) → 1 ≤ n → path_length n i + 1 ≤ n
unfolding path_length
path-short n i h = short-within n n i (omega arith) h
