-- The consistency list that a tree's leaves give, from the root down.
use Rattle.std.proofs.Common.{◌≡◌, ◌≢◌, ◌<◌, ◌≤◌, ℕ, suc, zero, ◌-◌, List, [], ◌∷◌, ◌++◌, length, take, drop, reverse, arith, ap, subst, ◌∙◌, sym, nat_le, if◌then◌else◌, inl, inr, length-drop}
use Rattle.std.proofs.lemmas.Bool.{cases_lt, cases_eq, le-leb, lt-leb, eq-eqb, ne_eqb}
use Rattle.std.proofs.lemmas.List.{append-nil, length-take-le, reverse-append}
use Rattle.im_digest.specs.Digests.{Hash}
use Rattle.im_model.specs.Trees.{split_of, root}
use Rattle.im_model.proofs.TreeLemmas.{split-within}
use Rattle.im_proof.specs.Built.{growth_first_within, growth_rest_within, growth_first, growth_rest, consistency}

-- a smaller number differs
pub differ : (m n : ℕ) → m < n → m ≢ n
differ m n l = λ e. absurd (omega arith)

-- of numbers that are at most another those that differ are smaller
pub less : (m n : ℕ) → m ≤ n → m ≢ n → m < n
less m n h ne = elim (cases_lt m n) [ inl q ↦ q | inr q ↦ absurd (ne (let e : m ≡ n = omega arith in e)) ]

first-whole : (room : ℕ) (hash : Hash) (leaves : List (List ℕ)) (m : ℕ) → m ≡ length leaves → growth_first_within (suc room) hash leaves m ≡ root hash leaves
unfolding growth_first_within
first-whole room hash leaves m e =
    ap (λ b. if b then root hash leaves
    else (if nat_le m (split_of (length leaves)) then growth_first_within room hash (take (split_of (length leaves)) leaves) m
    else growth_first_within room hash (drop (split_of (length leaves)) leaves) (m - split_of (length leaves)))) (eq-eqb m (length leaves) e)

first-low : (room : ℕ) (hash : Hash) (leaves : List (List ℕ)) (m : ℕ) → m ≢ length leaves → m ≤ split_of (length leaves)
    → growth_first_within (suc room) hash leaves m ≡ growth_first_within room hash (take (split_of (length leaves)) leaves) m
unfolding growth_first_within
first-low room hash leaves m ne side =
    ap (λ b. if b then root hash leaves
    else (if nat_le m (split_of (length leaves)) then growth_first_within room hash (take (split_of (length leaves)) leaves) m
    else growth_first_within room hash (drop (split_of (length leaves)) leaves) (m - split_of (length leaves)))) (ne_eqb m (length leaves) ne)
    ∙ ap (λ b. if b then growth_first_within room hash (take (split_of (length leaves)) leaves) m
    else growth_first_within room hash (drop (split_of (length leaves)) leaves) (m - split_of (length leaves))) (le-leb m (split_of (length leaves)) side)

first-high : (room : ℕ) (hash : Hash) (leaves : List (List ℕ)) (m : ℕ) → m ≢ length leaves → split_of (length leaves) < m
    → growth_first_within (suc room) hash leaves m ≡ growth_first_within room hash (drop (split_of (length leaves)) leaves) (m - split_of (length leaves))
unfolding growth_first_within
first-high room hash leaves m ne side =
    ap (λ b. if b then root hash leaves
    else (if nat_le m (split_of (length leaves)) then growth_first_within room hash (take (split_of (length leaves)) leaves) m
    else growth_first_within room hash (drop (split_of (length leaves)) leaves) (m - split_of (length leaves)))) (ne_eqb m (length leaves) ne)
    ∙ ap (λ b. if b then growth_first_within room hash (take (split_of (length leaves)) leaves) m
    else growth_first_within room hash (drop (split_of (length leaves)) leaves) (m - split_of (length leaves))) (lt-leb m (split_of (length leaves)) side)

rest-whole : (room : ℕ) (hash : Hash) (leaves : List (List ℕ)) (m : ℕ) → m ≡ length leaves → growth_rest_within (suc room) hash leaves m ≡ []
unfolding growth_rest_within
rest-whole room hash leaves m e =
    ap (λ b. if b then []
    else (if nat_le m (split_of (length leaves))
    then root hash (drop (split_of (length leaves)) leaves) ∷ growth_rest_within room hash (take (split_of (length leaves)) leaves) m
    else root hash (take (split_of (length leaves)) leaves)
    ∷ growth_rest_within room hash (drop (split_of (length leaves)) leaves) (m - split_of (length leaves)))) (eq-eqb m (length leaves) e)

rest-low : (room : ℕ) (hash : Hash) (leaves : List (List ℕ)) (m : ℕ) → m ≢ length leaves → m ≤ split_of (length leaves)
    → growth_rest_within (suc room) hash leaves m ≡ root hash (drop (split_of (length leaves)) leaves) ∷ growth_rest_within room hash (take (split_of (length leaves)) leaves) m
unfolding growth_rest_within
rest-low room hash leaves m ne side =
    ap (λ b. if b then []
    else (if nat_le m (split_of (length leaves))
    then root hash (drop (split_of (length leaves)) leaves) ∷ growth_rest_within room hash (take (split_of (length leaves)) leaves) m
    else root hash (take (split_of (length leaves)) leaves)
    ∷ growth_rest_within room hash (drop (split_of (length leaves)) leaves) (m - split_of (length leaves)))) (ne_eqb m (length leaves) ne)
    ∙ ap (λ b. if b
    then root hash (drop (split_of (length leaves)) leaves) ∷ growth_rest_within room hash (take (split_of (length leaves)) leaves) m
    else root hash (take (split_of (length leaves)) leaves)
    ∷ growth_rest_within room hash (drop (split_of (length leaves)) leaves) (m - split_of (length leaves))) (le-leb m (split_of (length leaves)) side)

rest-high : (room : ℕ) (hash : Hash) (leaves : List (List ℕ)) (m : ℕ) → m ≢ length leaves → split_of (length leaves) < m
    → growth_rest_within (suc room) hash leaves m
    ≡ root hash (take (split_of (length leaves)) leaves) ∷ growth_rest_within room hash (drop (split_of (length leaves)) leaves) (m - split_of (length leaves))
unfolding growth_rest_within
rest-high room hash leaves m ne side =
    ap (λ b. if b then []
    else (if nat_le m (split_of (length leaves))
    then root hash (drop (split_of (length leaves)) leaves) ∷ growth_rest_within room hash (take (split_of (length leaves)) leaves) m
    else root hash (take (split_of (length leaves)) leaves)
    ∷ growth_rest_within room hash (drop (split_of (length leaves)) leaves) (m - split_of (length leaves)))) (ne_eqb m (length leaves) ne)
    ∙ ap (λ b. if b
    then root hash (drop (split_of (length leaves)) leaves) ∷ growth_rest_within room hash (take (split_of (length leaves)) leaves) m
    else root hash (take (split_of (length leaves)) leaves)
    ∷ growth_rest_within room hash (drop (split_of (length leaves)) leaves) (m - split_of (length leaves))) (lt-leb m (split_of (length leaves)) side)

-- two recursions give the same first term, and the same terms behind it
abbrev Same : ℕ → ℕ → Hash → List (List ℕ) → ℕ → Type 0
Same a b hash leaves m = (growth_first_within a hash leaves m ≡ growth_first_within b hash leaves m) × (growth_rest_within a hash leaves m ≡ growth_rest_within b hash leaves m)

-- more room doesn't change a list
built-room : (a b : ℕ) (hash : Hash) (leaves : List (List ℕ)) (m : ℕ) → 0 < m → m ≤ length leaves → length leaves ≤ a → length leaves ≤ b → Same a b hash leaves m
built-room zero b hash leaves m o l p q = absurd (omega arith)
built-room (suc a) zero hash leaves m o l p q = absurd (omega arith)
built-room (suc a) (suc b) hash leaves m o l p q =
    let k : ℕ = split_of (length leaves) in
    elim (cases_eq m (length leaves)) [
      | inl e ↦ (first-whole a hash leaves m e ∙ sym (first-whole b hash leaves m e), rest-whole a hash leaves m e ∙ sym (rest-whole b hash leaves m e))
      | inr ne ↦ (
          let below : m < length leaves = less m (length leaves) l ne in
          let inside : (0 < k) × (k < length leaves) = split-within (length leaves) (omega arith) in
          let left : length (take k leaves) ≡ k = length-take-le k leaves (omega arith) in
          let right : length (drop k leaves) ≡ length leaves - k = length-drop k leaves in
          elim (cases_lt k m) [
            | inl over ↦ (
                let more : Same a b hash (drop k leaves) (m - k) = built-room a b hash (drop k leaves) (m - k) (omega arith) (omega arith) (omega arith) (omega arith) in (
                  first-high a hash leaves m ne over ∙ more.0 ∙ sym (first-high b hash leaves m ne over),
                  rest-high a hash leaves m ne over ∙ ap (λ x. root hash (take k leaves) ∷ x) more.1 ∙ sym (rest-high b hash leaves m ne over),
                ))
            | inr under ↦ (
                let more : Same a b hash (take k leaves) m = built-room a b hash (take k leaves) m o (omega arith) (omega arith) (omega arith) in (
                  first-low a hash leaves m ne under ∙ more.0 ∙ sym (first-low b hash leaves m ne under),
                  rest-low a hash leaves m ne under ∙ ap (λ x. root hash (drop k leaves) ∷ x) more.1 ∙ sym (rest-low b hash leaves m ne under),
                ))
          ])
    ]

-- the whole tree has its root as the first term, and no other
pub whole-list : (hash : Hash) (leaves : List (List ℕ)) (m : ℕ) → 0 < m → m ≡ length leaves → (growth_first hash leaves m ≡ root hash leaves) × (growth_rest hash leaves m ≡ [])
unfolding growth_first growth_rest
whole-list hash [] m o e = absurd (omega arith)
whole-list hash (leaf ∷ leaves) m o e = (first-whole (length leaves) hash (leaf ∷ leaves) m e, rest-whole (length leaves) hash (leaf ∷ leaves) m e)

-- a list over more leaves is the list over the part that the older tree ends in, and the root of the part beside it
abbrev pub Steps : Hash → List (List ℕ) → ℕ → List (List ℕ) → List (List ℕ) → ℕ → Type 0
Steps hash leaves m inside beside older =
    (growth_first hash leaves m ≡ growth_first hash inside older) × (growth_rest hash leaves m ≡ root hash beside ∷ growth_rest hash inside older)

-- up to the split
pub low-steps : (hash : Hash) (leaves : List (List ℕ)) (m : ℕ) → 0 < m → m < length leaves → m ≤ split_of (length leaves)
    → Steps hash leaves m (take (split_of (length leaves)) leaves) (drop (split_of (length leaves)) leaves) m
unfolding growth_first growth_rest
low-steps hash [] m o l side = absurd (omega arith)
low-steps hash (leaf ∷ more) m o l side =
    let leaves : List (List ℕ) = leaf ∷ more in
    let k : ℕ = split_of (length leaves) in
    let ne : m ≢ length leaves = differ m (length leaves) l in
    let inside : (0 < k) × (k < length leaves) = split-within (length leaves) (omega arith) in
    let left : length (take k leaves) ≡ k = length-take-le k leaves (omega arith) in
    let same : Same (length more) (length (take k leaves)) hash (take k leaves) m = built-room (length more) (length (take k leaves)) hash (take k leaves) m o (omega arith) (omega arith) (omega arith) in (
      first-low (length more) hash leaves m ne side ∙ same.0,
      rest-low (length more) hash leaves m ne side ∙ ap (λ x. root hash (drop k leaves) ∷ x) same.1,
    )

-- past the split
pub high-steps : (hash : Hash) (leaves : List (List ℕ)) (m : ℕ) → 0 < m → m < length leaves → split_of (length leaves) < m
    → Steps hash leaves m (drop (split_of (length leaves)) leaves) (take (split_of (length leaves)) leaves) (m - split_of (length leaves))
unfolding growth_first growth_rest
high-steps hash [] m o l side = absurd (omega arith)
high-steps hash (leaf ∷ more) m o l side =
    let leaves : List (List ℕ) = leaf ∷ more in
    let k : ℕ = split_of (length leaves) in
    let ne : m ≢ length leaves = differ m (length leaves) l in
    let inside : (0 < k) × (k < length leaves) = split-within (length leaves) (omega arith) in
    let right : length (drop k leaves) ≡ length leaves - k = length-drop k leaves in
    let same : Same (length more) (length (drop k leaves)) hash (drop k leaves) (m - k) = built-room (length more) (length (drop k leaves)) hash (drop k leaves) (m - k) (omega arith) (omega arith) (omega arith) (omega arith) in (
      first-high (length more) hash leaves m ne side ∙ same.0,
      rest-high (length more) hash leaves m ne side ∙ ap (λ x. root hash (take k leaves) ∷ x) same.1,
    )

-- up to the split, as the code parts the leaves
pub parts-low : (leaves left right : List (List ℕ)) (m k : ℕ) → 0 < m → m < length leaves → k ≡ split_of (length leaves) → m ≤ k
    → left ≡ take k leaves → right ≡ drop k leaves → (hash : Hash) → Steps hash leaves m left right m
parts-low leaves left right m k o l same side front back hash =
    let P : ℕ → Type 0 = λ j. m ≤ j → Steps hash leaves m (take j leaves) (drop j leaves) m in
    subst (λ x. Steps hash leaves m x right m) (sym front)
    (subst (λ x. Steps hash leaves m (take k leaves) x m) (sym back)
    (subst P (sym same) (λ h. low-steps hash leaves m o l h) side))

-- past the split, as the code parts the leaves
pub parts-high : (leaves left right : List (List ℕ)) (m k : ℕ) → 0 < m → m < length leaves → k ≡ split_of (length leaves) → k < m
    → left ≡ take k leaves → right ≡ drop k leaves → (hash : Hash) → Steps hash leaves m right left (m - k)
parts-high leaves left right m k o l same side front back hash =
    let P : ℕ → Type 0 = λ j. j < m → Steps hash leaves m (drop j leaves) (take j leaves) (m - j) in
    subst (λ x. Steps hash leaves m right x (m - k)) (sym front)
    (subst (λ x. Steps hash leaves m x (take k leaves) (m - k)) (sym back)
    (subst P (sym same) (λ h. high-steps hash leaves m o l h) side))

-- between equal sizes the list is empty
pub list_whole : (hash : Hash) (leaves : List (List ℕ)) (m : ℕ) → m ≡ length leaves → consistency hash leaves m ≡ []
unfolding consistency
list_whole hash leaves m e = ap (λ b. if b then [] else growth_first hash leaves m ∷ reverse (growth_rest hash leaves m)) (eq-eqb m (length leaves) e)

-- else it is its first term and those behind it
pub list_grown : (hash : Hash) (leaves : List (List ℕ)) (m : ℕ) → m ≢ length leaves → consistency hash leaves m ≡ growth_first hash leaves m ∷ reverse (growth_rest hash leaves m)
unfolding consistency
list_grown hash leaves m ne = ap (λ b. if b then [] else growth_first hash leaves m ∷ reverse (growth_rest hash leaves m)) (ne_eqb m (length leaves) ne)

-- which is its terms in the other order, turned
pub list_more : (hash : Hash) (leaves : List (List ℕ)) (m : ℕ) (terms list : List (List ℕ)) → m ≢ length leaves → terms ≡ growth_rest hash leaves m ++ growth_first hash leaves m ∷ []
    → list ≡ reverse terms → list ≡ consistency hash leaves m
list_more hash leaves m terms list ne down turned =
    turned ∙ ap (λ x. reverse x) down ∙ reverse-append (growth_rest hash leaves m) (growth_first hash leaves m ∷ []) ∙ sym (list_grown hash leaves m ne)

-- once the part is whole, its root is the first term
pub down-ends : (hash : Hash) (leaves part terms items : List (List ℕ)) (m older : ℕ) → 0 < older → older ≡ length part
    → growth_first hash part older ≡ growth_first hash leaves m → terms ++ growth_rest hash part older ≡ growth_rest hash leaves m
    → items ≡ terms ++ root hash part ∷ [] → items ≡ growth_rest hash leaves m ++ growth_first hash leaves m ∷ []
down-ends hash leaves part terms items m older o e first rest pushed =
    let whole : (growth_first hash part older ≡ root hash part) × (growth_rest hash part older ≡ []) = whole-list hash part older o e in
    let all : terms ≡ growth_rest hash leaves m = sym (append-nil terms) ∙ ap (λ x. terms ++ x) (sym whole.1) ∙ rest in
    pushed ∙ ap (λ x. x ++ root hash part ∷ []) all ∙ ap (λ x. growth_rest hash leaves m ++ x ∷ []) (sym whole.0 ∙ first)
