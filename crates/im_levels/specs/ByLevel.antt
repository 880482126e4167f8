-- The digests of the whole subtrees of a list of leaves, level by level from the leaves up.
use Rattle.std.specs.Prelude.{ℕ, suc, zero, List, [], ◌∷◌}
use Rattle.im_digest.specs.Digests.{Hash}
use Rattle.im_model.specs.Trees.{leaf, node}

-- the digest of each leaf
unfoldable pub leaf_digests : Hash → List (List ℕ) → List (List ℕ)
leaf_digests hash [] = []
leaf_digests hash (first ∷ rest) = leaf hash first ∷ leaf_digests hash rest

-- a node for each pair of digests; a last one that is left over has none
unfoldable pub pairs : Hash → List (List ℕ) → List (List ℕ)
pairs hash [] = []
pairs hash (only ∷ []) = []
pairs hash (left ∷ right ∷ rest) = node hash left right ∷ pairs hash rest

-- level 0 has the digests of the leaves, and each other one the pairs of the level below
unfoldable pub level : Hash → List (List ℕ) → ℕ → List (List ℕ)
level hash leaves zero = leaf_digests hash leaves
level hash leaves (suc k) = pairs hash (level hash leaves k)
