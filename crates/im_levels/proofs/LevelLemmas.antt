-- Levels: how long they are, and what their entries are.
use Rattle.std.proofs.Common.{◌≡◌, ◌<◌, ◌≤◌, length, ℕ, suc, zero, ◌+◌, ◌*◌, ◌^◌, List, [], ◌∷◌, refl, arith, ap, ◌∙◌, sym, get_or, count_ones}
use Rattle.std.proofs.Math.Nat.{pow-succ', mul_assoc, suc-mul}
use Rattle.im_digest.specs.Digests.{Hash}
use Rattle.im_model.specs.Trees.{leaf, node, root}
use Rattle.im_model.proofs.Lengths.{ones-one}
use Rattle.im_mtree.proofs.JoinLemmas.{root-leaf, root-join}
use Rattle.im_levels.specs.Counts.{whole_within, whole}
use Rattle.im_levels.specs.Leveled.{leaves_of}
use Rattle.im_levels.specs.ByLevel.{leaf_digests, pairs, level}
use Rattle.im_levels.proofs.CountLemmas.{twice-power, ones-front}

length-leaf_digests : (hash : Hash) (leaves : List (List ℕ)) → length (leaf_digests hash leaves) ≡ length leaves
unfolding leaf_digests
length-leaf_digests hash [] = refl
length-leaf_digests hash (first ∷ rest) = ap (λ n. suc n) (length-leaf_digests hash rest)

entry-leaf_digests : (hash : Hash) (leaves : List (List ℕ)) (j : ℕ) → j < length leaves → get_or (leaf_digests hash leaves) j [] ≡ leaf hash (get_or leaves j [])
unfolding leaf_digests
entry-leaf_digests hash [] j h = absurd (omega arith)
entry-leaf_digests hash (first ∷ rest) zero h = refl
entry-leaf_digests hash (first ∷ rest) (suc j) h = entry-leaf_digests hash rest j (omega arith)

-- two entries below make one
length-pairs : (hash : Hash) (below : List (List ℕ)) (m : ℕ) → 2 * m ≤ length below → m ≤ length (pairs hash below)
unfolding pairs
length-pairs hash [] m h = omega arith
length-pairs hash (only ∷ []) m h = omega arith
length-pairs hash (left ∷ right ∷ rest) zero h = omega arith
length-pairs hash (left ∷ right ∷ rest) (suc m) h = let more : m ≤ length (pairs hash rest) = length-pairs hash rest m (omega arith) in omega arith

entry-pairs : (hash : Hash) (below : List (List ℕ)) (j : ℕ) → 2 * j + 1 < length below → get_or (pairs hash below) j [] ≡ node hash (get_or below (2 * j) []) (get_or below (2 * j + 1) [])
unfolding pairs
entry-pairs hash [] j h = absurd (omega arith)
entry-pairs hash (only ∷ []) j h = absurd (omega arith)
entry-pairs hash (left ∷ right ∷ rest) zero h = refl
entry-pairs hash (left ∷ right ∷ rest) (suc j) h =
    let below : List (List ℕ) = left ∷ right ∷ rest in
    let first : suc (suc (2 * j)) ≡ 2 * suc j = omega arith in
    let second : suc (suc (2 * j + 1)) ≡ 2 * suc j + 1 = omega arith in
    entry-pairs hash rest j (omega arith)
    ∙ ap (λ n. node hash (get_or below n []) (get_or rest (2 * j + 1) [])) first
    ∙ ap (λ n. node hash (get_or below (2 * suc j) []) (get_or below n [])) second

-- twice as many runs of half the length
half-runs : (m k : ℕ) → 2 * m * 2 ^ k ≡ m * 2 ^ suc k
half-runs m k = mul_assoc 2 m (2 ^ k) ∙ sym (twice-power m k)

-- as many entries as there are runs of leaves
level-long : (hash : Hash) (leaves : List (List ℕ)) (k m : ℕ) → m * 2 ^ k ≤ length leaves → m ≤ length (level hash leaves k)
unfolding level
level-long hash leaves zero m h =
    let long : length (leaf_digests hash leaves) ≡ length leaves = length-leaf_digests hash leaves in
    let one : m * 2 ^ 0 ≡ m = omega arith in
    omega arith
level-long hash leaves (suc k) m h =
    let runs : 2 * m * 2 ^ k ≡ m * 2 ^ suc k = half-runs m k in
    length-pairs hash (level hash leaves k) m (level-long hash leaves k (2 * m) (omega arith))

-- an entry of a level is the root over its leaves
pub level-entry : (hash : Hash) (leaves : List (List ℕ)) (k j : ℕ) → j * 2 ^ k + 2 ^ k ≤ length leaves
    → get_or (level hash leaves k) j [] ≡ root hash (leaves_of leaves (j * 2 ^ k) (2 ^ k))
unfolding level
level-entry hash leaves zero j h =
    let one : j ≡ j * 2 ^ 0 = omega arith in
    entry-leaf_digests hash leaves j (omega arith) ∙ sym (root-leaf hash leaves j (omega arith)) ∙ ap (λ a. root hash (leaves_of leaves a 1)) one
level-entry hash leaves (suc k) j h =
    let q : ℕ = 2 ^ k in
    let at : ℕ = j * 2 ^ suc k in
    let double : 2 ^ suc k ≡ 2 * q = pow-succ' 2 k in
    let left_at : 2 * j * q ≡ at = half-runs j k in
    let right_at : suc (2 * j) * q ≡ 2 * j * q + q = suc-mul (2 * j) q in
    let next : 2 * j + 1 ≡ suc (2 * j) = omega arith in
    let right_is : (2 * j + 1) * q ≡ at + q = ap (λ x. x * q) next ∙ right_at ∙ ap (λ x. x + q) left_at in
    let ends : suc (2 * j + 1) * q ≡ (2 * j + 1) * q + q = suc-mul (2 * j + 1) q in
    let long : suc (2 * j + 1) ≤ length (level hash leaves k) = level-long hash leaves k (suc (2 * j + 1)) (omega arith) in
    entry-pairs hash (level hash leaves k) j (omega arith)
    ∙ ap (λ x. node hash x (get_or (level hash leaves k) (2 * j + 1) [])) (level-entry hash leaves k (2 * j) (omega arith))
    ∙ ap (λ x. node hash (root hash (leaves_of leaves (2 * j * q) q)) x) (level-entry hash leaves k (2 * j + 1) (omega arith))
    ∙ ap (λ a. node hash (root hash (leaves_of leaves a q)) (root hash (leaves_of leaves ((2 * j + 1) * q) q))) left_at
    ∙ ap (λ a. node hash (root hash (leaves_of leaves at q)) (root hash (leaves_of leaves a q))) right_is
    ∙ root-join hash leaves q k at refl (omega arith)
    ∙ ap (λ w. root hash (leaves_of leaves at w)) (sym double)

-- the ones of seven, and the whole subtrees of seven and eight leaves
pub seven-ones : 5 + 1 ≡ 2 * count_ones 7
seven-ones =
    let three : count_ones 3 ≡ count_ones 1 + 1 = ones-front 1 1 (omega arith) in
    let seven : count_ones 7 ≡ count_ones 3 + 1 = ones-front 2 3 (omega arith) in
    omega (arith, ones-one)

pub eighth-leaf : 7 + 1 + 2 * whole 7 ≡ 2 * whole 8
unfolding whole whole_within
eighth-leaf = refl
