-- The path that a list of digests gives: its steps, its length, and where it leads.
use Rattle.std.proofs.Common.{◌≡◌, ◌<◌, ◌≤◌, ℕ, suc, zero, ◌+◌, ◌-◌, List, [], ◌∷◌, length, take, drop, reverse, refl, arith, ap, subst, ◌∙◌, sym, nat_lt, if◌then◌else◌, inl, inr, get_or, length-drop}
use Rattle.std.specs.Prelude.{Ok}
use Rattle.std.proofs.lemmas.Bool.{cases_lt, le-leb, lt-leb, lt-ltb, le-ltb, eq-eqb}
use Rattle.std.proofs.lemmas.List.{length-take-le, length-reverse, reverse-reverse, get_or-take, get_or-drop}
use Rattle.std.proofs.lemmas.Slice.Eq.{bytes_eq-Decides}
use Rattle.im_digest.specs.Digests.{Hash}
use Rattle.im_model.specs.Trees.{leaf, node, split_of, root}
use Rattle.im_model.specs.Paths.{IsPath, path_length, up}
use Rattle.im_model.proofs.TreeLemmas.{split-within, root-one, root-split}
use Rattle.im_model.proofs.Lengths.{path-fits}
use Rattle.im_model.proofs.Steps.{up-leaf, up-left, up-right}
use Rattle.im_mtree.specs.Checks.{first_fail}
use Rattle.im_mtree.specs.Inclusion.{inclusion_within, inclusion}
use Rattle.im_mtree.specs.PathChecks.{path_checks}
use Rattle.im_mtree.proofs.CheckLemmas.{three-hold}

few-within : (room : ℕ) (hash : Hash) (digests : List (List ℕ)) (i : ℕ) → length digests ≤ 1 → inclusion_within room hash digests i ≡ []
unfolding inclusion_within
few-within zero hash digests i h = refl
few-within (suc room) hash digests i h =
    ap (λ t. if t then []
    else (if nat_lt i (split_of (length digests))
    then root hash (drop (split_of (length digests)) digests) ∷ inclusion_within room hash (take (split_of (length digests)) digests) i
    else root hash (take (split_of (length digests)) digests)
    ∷ inclusion_within room hash (drop (split_of (length digests)) digests) (i - split_of (length digests)))) (le-leb (length digests) 1 h)

left-within : (room : ℕ) (hash : Hash) (digests : List (List ℕ)) (i : ℕ) → 1 < length digests → i < split_of (length digests)
    → inclusion_within (suc room) hash digests i
    ≡ root hash (drop (split_of (length digests)) digests) ∷ inclusion_within room hash (take (split_of (length digests)) digests) i
unfolding inclusion_within
left-within room hash digests i h side =
    ap (λ t. if t then []
    else (if nat_lt i (split_of (length digests))
    then root hash (drop (split_of (length digests)) digests) ∷ inclusion_within room hash (take (split_of (length digests)) digests) i
    else root hash (take (split_of (length digests)) digests)
    ∷ inclusion_within room hash (drop (split_of (length digests)) digests) (i - split_of (length digests)))) (lt-leb (length digests) 1 h)
    ∙ ap (λ t. if t then root hash (drop (split_of (length digests)) digests) ∷ inclusion_within room hash (take (split_of (length digests)) digests) i
    else root hash (take (split_of (length digests)) digests)
    ∷ inclusion_within room hash (drop (split_of (length digests)) digests) (i - split_of (length digests))) (lt-ltb i (split_of (length digests)) side)

right-within : (room : ℕ) (hash : Hash) (digests : List (List ℕ)) (i : ℕ) → 1 < length digests → split_of (length digests) ≤ i
    → inclusion_within (suc room) hash digests i
    ≡ root hash (take (split_of (length digests)) digests) ∷ inclusion_within room hash (drop (split_of (length digests)) digests) (i - split_of (length digests))
unfolding inclusion_within
right-within room hash digests i h side =
    ap (λ t. if t then []
    else (if nat_lt i (split_of (length digests))
    then root hash (drop (split_of (length digests)) digests) ∷ inclusion_within room hash (take (split_of (length digests)) digests) i
    else root hash (take (split_of (length digests)) digests)
    ∷ inclusion_within room hash (drop (split_of (length digests)) digests) (i - split_of (length digests)))) (lt-leb (length digests) 1 h)
    ∙ ap (λ t. if t then root hash (drop (split_of (length digests)) digests) ∷ inclusion_within room hash (take (split_of (length digests)) digests) i
    else root hash (take (split_of (length digests)) digests)
    ∷ inclusion_within room hash (drop (split_of (length digests)) digests) (i - split_of (length digests))) (le-ltb i (split_of (length digests)) side)

-- more room doesn't change a path
inclusion-room : (a b : ℕ) (hash : Hash) (digests : List (List ℕ)) (i : ℕ) → length digests ≤ a → length digests ≤ b → inclusion_within a hash digests i ≡ inclusion_within b hash digests i
inclusion-room zero b hash digests i p q = few-within zero hash digests i (omega arith) ∙ sym (few-within b hash digests i (omega arith))
inclusion-room (suc a) zero hash digests i p q = few-within (suc a) hash digests i (omega arith) ∙ sym (few-within zero hash digests i (omega arith))
inclusion-room (suc a) (suc b) hash digests i p q = elim (cases_lt 1 (length digests)) [
  | inl many ↦ (
      let k : ℕ = split_of (length digests) in
      let inside : (0 < k) × (k < length digests) = split-within (length digests) many in
      let left : length (take k digests) ≡ k = length-take-le k digests (omega arith) in
      let right : length (drop k digests) ≡ length digests - k = length-drop k digests in
      elim (cases_lt i k) [
        | inl l ↦ left-within a hash digests i many l
            ∙ ap (λ p. root hash (drop k digests) ∷ p) (inclusion-room a b hash (take k digests) i (omega arith) (omega arith))
            ∙ sym (left-within b hash digests i many l)
        | inr g ↦ right-within a hash digests i many g
            ∙ ap (λ p. root hash (take k digests) ∷ p) (inclusion-room a b hash (drop k digests) (i - k) (omega arith) (omega arith))
            ∙ sym (right-within b hash digests i many g)
      ])
  | inr few ↦ few-within (suc a) hash digests i few ∙ sym (few-within (suc b) hash digests i few)
]

-- the only leaf has the empty path
pub inclusion-few : (hash : Hash) (digests : List (List ℕ)) (i : ℕ) → length digests ≤ 1 → inclusion hash digests i ≡ []
unfolding inclusion
inclusion-few hash digests i h = few-within (length digests) hash digests i h

inclusion-at_left : (hash : Hash) (digests : List (List ℕ)) (i : ℕ) → 1 < length digests → i < split_of (length digests)
    → inclusion hash digests i ≡ root hash (drop (split_of (length digests)) digests) ∷ inclusion hash (take (split_of (length digests)) digests) i
unfolding inclusion
inclusion-at_left hash [] i h side = absurd (omega arith)
inclusion-at_left hash (first ∷ rest) i h side =
    let digests : List (List ℕ) = first ∷ rest in
    let k : ℕ = split_of (length digests) in
    let inside : (0 < k) × (k < length digests) = split-within (length digests) h in
    let left : length (take k digests) ≡ k = length-take-le k digests (omega arith) in
    left-within (length rest) hash digests i h side
    ∙ ap (λ p. root hash (drop k digests) ∷ p) (inclusion-room (length rest) (length (take k digests)) hash (take k digests) i (omega arith) (omega arith))

inclusion-at_right : (hash : Hash) (digests : List (List ℕ)) (i : ℕ) → 1 < length digests → split_of (length digests) ≤ i
    → inclusion hash digests i ≡ root hash (take (split_of (length digests)) digests) ∷ inclusion hash (drop (split_of (length digests)) digests) (i - split_of (length digests))
unfolding inclusion
inclusion-at_right hash [] i h side = absurd (omega arith)
inclusion-at_right hash (first ∷ rest) i h side =
    let digests : List (List ℕ) = first ∷ rest in
    let k : ℕ = split_of (length digests) in
    let inside : (0 < k) × (k < length digests) = split-within (length digests) h in
    let right : length (drop k digests) ≡ length digests - k = length-drop k digests in
    right-within (length rest) hash digests i h side
    ∙ ap (λ p. root hash (take k digests) ∷ p) (inclusion-room (length rest) (length (drop k digests)) hash (drop k digests) (i - k) (omega arith) (omega arith))

-- below the split the first term is the root of the right part
pub inclusion-left : (hash : Hash) (digests : List (List ℕ)) (i k : ℕ) → 1 < length digests → k ≡ split_of (length digests) → i < k
    → inclusion hash digests i ≡ root hash (drop k digests) ∷ inclusion hash (take k digests) i
inclusion-left hash digests i k h same side =
    let P : ℕ → Type 0 = λ j. i < j → inclusion hash digests i ≡ root hash (drop j digests) ∷ inclusion hash (take j digests) i in
    subst P (sym same) (λ l. inclusion-at_left hash digests i h l) side

-- from the split on the first term is the root of the left part
pub inclusion-right : (hash : Hash) (digests : List (List ℕ)) (i k : ℕ) → 1 < length digests → k ≡ split_of (length digests) → k ≤ i
    → inclusion hash digests i ≡ root hash (take k digests) ∷ inclusion hash (drop k digests) (i - k)
inclusion-right hash digests i k h same side =
    let P : ℕ → Type 0 = λ j. j ≤ i → inclusion hash digests i ≡ root hash (take j digests) ∷ inclusion hash (drop j digests) (i - j) in
    subst P (sym same) (λ g. inclusion-at_right hash digests i h g) side

-- below the split, as the code parts the list
pub parts-left : (digests left right : List (List ℕ)) (i k : ℕ) → 1 < length digests → k ≡ split_of (length digests) → i < k
    → left ≡ take k digests → right ≡ drop k digests → (hash : Hash) → inclusion hash digests i ≡ root hash right ∷ inclusion hash left i
parts-left digests left right i k h same side front back hash =
    inclusion-left hash digests i k h same side
    ∙ ap (λ r. root hash r ∷ inclusion hash (take k digests) i) (sym back)
    ∙ ap (λ l. root hash right ∷ inclusion hash l i) (sym front)

-- from the split on, as the code parts the list
pub parts-right : (digests left right : List (List ℕ)) (i k : ℕ) → 1 < length digests → k ≡ split_of (length digests) → k ≤ i
    → left ≡ take k digests → right ≡ drop k digests → (hash : Hash) → inclusion hash digests i ≡ root hash left ∷ inclusion hash right (i - k)
parts-right digests left right i k h same side front back hash =
    inclusion-right hash digests i k h same side
    ∙ ap (λ l. root hash l ∷ inclusion hash (drop k digests) (i - k)) (sym front)
    ∙ ap (λ r. root hash left ∷ inclusion hash r (i - k)) (sym back)

fits-within : (room : ℕ) (hash : Hash) (digests : List (List ℕ)) (i : ℕ) → length digests ≤ room → i < length digests → IsPath (length digests) i (inclusion hash digests i)
fits-within zero hash digests i s h = absurd (omega arith)
fits-within (suc room) hash digests i s h = elim (cases_lt 1 (length digests)) [
  | inl many ↦ (
      let k : ℕ = split_of (length digests) in
      let inside : (0 < k) × (k < length digests) = split-within (length digests) many in
      let left : length (take k digests) ≡ k = length-take-le k digests (omega arith) in
      let right : length (drop k digests) ≡ length digests - k = length-drop k digests in
      elim (cases_lt i k) [
        | inl l ↦ subst (λ p. IsPath (length digests) i p) (sym (inclusion-left hash digests i k many refl l))
            (many, inl (l, subst (λ n. IsPath n i (inclusion hash (take k digests) i)) left (fits-within room hash (take k digests) i (omega arith) (omega arith))))
        | inr g ↦ subst (λ p. IsPath (length digests) i p) (sym (inclusion-right hash digests i k many refl g))
            (many, inr (g, subst (λ n. IsPath n (i - k) (inclusion hash (drop k digests) (i - k))) right (fits-within room hash (drop k digests) (i - k) (omega arith) (omega arith))))
      ])
  | inr few ↦ subst (λ p. IsPath (length digests) i p) (sym (inclusion-few hash digests i few)) (omega arith)
]

-- the path of a leaf has the exact length
pub inclusion-exact : (hash : Hash) (digests : List (List ℕ)) (i : ℕ) → i < length digests → length (inclusion hash digests i) ≡ path_length (length digests) i
inclusion-exact hash digests i h =
    (path-fits (length digests) i (inclusion hash digests i) h).0 (fits-within (length digests) hash digests i (omega arith) h)

leads-within : (room : ℕ) (hash : Hash) (digests : List (List ℕ)) (i : ℕ) → length digests ≤ room → i < length digests
    → up hash (length digests) i (get_or digests i []) (inclusion hash digests i) ≡ root hash digests
leads-within zero hash digests i s h = absurd (omega arith)
leads-within (suc room) hash digests i s h = elim (cases_lt 1 (length digests)) [
  | inl many ↦ (
      let n : ℕ = length digests in
      let k : ℕ = split_of n in
      let digest : List ℕ = get_or digests i [] in
      let inside : (0 < k) × (k < n) = split-within n many in
      let left : length (take k digests) ≡ k = length-take-le k digests (omega arith) in
      let right : length (drop k digests) ≡ n - k = length-drop k digests in
      elim (cases_lt i k) [
        | inl l ↦ (
            let below : List (List ℕ) = inclusion hash (take k digests) i in
            let term : List ℕ = root hash (drop k digests) in
            ap (λ p. up hash n i digest p) (inclusion-left hash digests i k many refl l)
            ∙ ap hash (up-left hash n i digest term below l)
            ∙ ap (λ r. node hash r term)
            (ap (λ j. up hash j i digest below) (sym left)
            ∙ ap (λ d. up hash (length (take k digests)) i d below) (sym (get_or-take k digests i [] l))
            ∙ leads-within room hash (take k digests) i (omega arith) (omega arith))
            ∙ sym (root-split hash digests k many refl))
        | inr g ↦ (
            let below : List (List ℕ) = inclusion hash (drop k digests) (i - k) in
            let term : List ℕ = root hash (take k digests) in
            let at : k + (i - k) ≡ i = omega arith in
            ap (λ p. up hash n i digest p) (inclusion-right hash digests i k many refl g)
            ∙ ap hash (up-right hash n i digest term below g)
            ∙ ap (λ r. node hash term r)
            (ap (λ j. up hash j (i - k) digest below) (sym right)
            ∙ ap (λ d. up hash (length (drop k digests)) (i - k) d below) (sym (get_or-drop k digests (i - k) [] ∙ ap (λ j. get_or digests j []) at))
            ∙ leads-within room hash (drop k digests) (i - k) (omega arith) (omega arith))
            ∙ sym (root-split hash digests k many refl))
      ])
  | inr few ↦ (
      let first : i ≡ 0 = omega arith in
      ap (λ p. up hash (length digests) i (get_or digests i []) p) (inclusion-few hash digests i few)
      ∙ ap hash (up-leaf hash (length digests) i (get_or digests i []))
      ∙ ap (λ j. leaf hash (get_or digests j [])) first
      ∙ sym (root-one hash digests (omega arith) (omega arith)))
]

-- the path of a leaf leads to the root
pub inclusion-leads : (hash : Hash) (digests : List (List ℕ)) (i : ℕ) → i < length digests → up hash (length digests) i (get_or digests i []) (inclusion hash digests i) ≡ root hash digests
inclusion-leads hash digests i h = leads-within (length digests) hash digests i (omega arith) h

-- a path turned is as a proof holds it
pub path_turned : (hash : Hash) (digests path terms : List (List ℕ)) (i : ℕ) → terms ≡ inclusion hash digests i → path ≡ reverse terms → reverse path ≡ inclusion hash digests i
path_turned hash digests path terms i e r = ap (λ p. reverse p) r ∙ reverse-reverse terms ∙ e

-- the terms of a path, as a proof holds them, have the exact length
pub path_exact : (hash : Hash) (digests path : List (List ℕ)) (i : ℕ) → i < length digests → reverse path ≡ inclusion hash digests i → length path ≡ path_length (length digests) i
path_exact hash digests path i h e = sym (length-reverse path) ∙ ap (λ p. length p) e ∙ inclusion-exact hash digests i h

-- and they lead to the root
pub path_leads : (hash : Hash) (digests path : List (List ℕ)) (i : ℕ) → i < length digests → reverse path ≡ inclusion hash digests i
    → up hash (length digests) i (get_or digests i []) (reverse path) ≡ root hash digests
path_leads hash digests path i h e = ap (λ p. up hash (length digests) i (get_or digests i []) p) e ∙ inclusion-leads hash digests i h

-- the path of a leaf passes its check
pub inclusion-passes : (hash : Hash) (digests : List (List ℕ)) (i : ℕ) → i < length digests
    → first_fail (path_checks hash (get_or digests i []) i (length digests) (reverse (inclusion hash digests i)) (root hash digests)) ≡ Ok tt
inclusion-passes hash digests i h =
    let path : List (List ℕ) = inclusion hash digests i in
    let exact : length (reverse path) ≡ path_length (length digests) i = length-reverse path ∙ inclusion-exact hash digests i h in
    let leads : up hash (length digests) i (get_or digests i []) (reverse (reverse path)) ≡ root hash digests =
    ap (λ p. up hash (length digests) i (get_or digests i []) p) (reverse-reverse path) ∙ inclusion-leads hash digests i h in
    three-hold _ _ _ _ _ _ (lt-ltb i (length digests) h) (eq-eqb (length (reverse path)) (path_length (length digests) i) exact)
    (grind (arith, bytes_eq-Decides (up hash (length digests) i (get_or digests i []) (reverse (reverse path))) (root hash digests), leads))
